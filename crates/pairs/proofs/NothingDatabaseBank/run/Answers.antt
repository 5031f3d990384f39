use Rattle.std.proofs.Common.{refl}
use Rattle.replica.specs.Calls.{cleared}
use Rattle.replica.specs.Refusals.{run_refusal}
use Rattle.pairs.proofs.NothingDatabaseBank.run.Goals as goal

pub returns : goal.returns
unfolding run_refusal cleared
returns c = (refl, refl)
