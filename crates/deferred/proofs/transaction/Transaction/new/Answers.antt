-- A new slot is fresh: every list in it reads the same everywhere.
use Rattle.std.proofs.Common.{false, cond, get_or, replicate, Some, None, ap}
use Rattle.replica.specs.Meanings.{fresh}
use Rattle.replica.proofs.Indices.{all_same}
use Rattle.replica.proofs.Same.{same_slot}
use Rattle.deferred.proofs.transaction.Transaction.new.Goals as goal

pub returns : goal.returns
returns c = same_slot (record { reads = λ u. get_or (replicate 8 false) u false; writes = λ u. get_or (replicate 8 false) u false; own = λ k. cond (get_or (replicate 64 false) k false) (Some (get_or (replicate 64 0) k 0)) None }) fresh (all_same 8 false) (all_same 8 false) (λ k. ap (λ b. cond b (Some (get_or (replicate 64 0) k 0)) None) (all_same 64 false k))
