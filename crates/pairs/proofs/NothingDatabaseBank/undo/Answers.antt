use Rattle.std.proofs.Common.{refl}
use Rattle.replica.specs.Calls.{cleared}
use Rattle.replica.specs.Refusals.{undo_refusal}
use Rattle.pairs.proofs.NothingDatabaseBank.undo.Goals as goal

pub returns : goal.returns
unfolding undo_refusal cleared
returns c = (refl, refl)
