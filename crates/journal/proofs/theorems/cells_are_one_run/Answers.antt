use Rattle.journal.proofs.Earlier.{one_run, first_epoch}
use Rattle.journal.proofs.theorems.cells_are_one_run.Goals as goal

pub returns : goal.returns
returns c = record { cells = one_run; epoch = first_epoch }
