use Rattle.journal.proofs.Earlier.{earlier_told}
use Rattle.journal.proofs.theorems.earlier_is_told.Goals as goal

pub returns : goal.returns
returns c = earlier_told
