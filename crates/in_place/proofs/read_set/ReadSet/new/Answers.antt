use Rattle.std.proofs.Common.{false}
use Rattle.replica.proofs.Indices.{all_same}
use Rattle.in_place.proofs.read_set.ReadSet.new.Goals as goal

pub returns : goal.returns
returns c = all_same 64 false
