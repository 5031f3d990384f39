use Rattle.std.proofs.Common.{refl}
use Rattle.replica.specs.Calls.{cleared}
use Rattle.pairs.proofs.NothingReplicaBank.mark.Goals as goal

pub returns : goal.returns
unfolding cleared
returns c = refl
