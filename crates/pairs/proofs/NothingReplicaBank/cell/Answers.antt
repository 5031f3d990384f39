use Rattle.std.proofs.Common.{rules}
use Rattle.replica.specs.Calls.{cleared}
use Rattle.pairs.proofs.NothingReplicaBank.cell.Goals as goal

pub returns-then-cell : goal.returns-then-cell
unfolding cleared
returns-then-cell c = search rules
