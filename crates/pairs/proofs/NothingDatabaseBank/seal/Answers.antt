use Rattle.std.proofs.Common.{refl}
use Rattle.replica.specs.Calls.{cleared}
use Rattle.replica.specs.Refusals.{seal_refusal}
use Rattle.pairs.proofs.NothingDatabaseBank.seal.Goals as goal

pub returns : goal.returns
unfolding seal_refusal cleared
returns c = (refl, refl)
