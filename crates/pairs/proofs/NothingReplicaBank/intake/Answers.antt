use Rattle.std.proofs.Common.{refl}
use Rattle.replica.specs.Calls.{cleared}
use Rattle.replica.specs.Refusals.{intake_refusal}
use Rattle.pairs.proofs.Ahead.{out_none}
use Rattle.pairs.proofs.NothingReplicaBank.intake.Goals as goal

pub returns : goal.returns
returns c = (out_none c.args._place (intake_refusal cleared c.args._position), refl)
