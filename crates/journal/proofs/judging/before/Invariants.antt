use Rattle.std.proofs.Common.{◌≡◌, ◌+◌, ◌≤◌}
use Rattle.journal.specs.Judging.{at}
use Rattle.journal.specs.Verdicts.{Knows}
use Rattle.journal.proofs.judging.before.Given as goal

abbrev pub invariant-loop-q : goal.invariant-loop-q
invariant-loop-q g l = Knows l.so_far (at (g.B.Broadcast.log l.broadcast) l.q) l.client l.job × ((at (g.B.Broadcast.log l.broadcast) l.q).count ≡ l.q) × (l.so_far.epoch ≤ l.q + 1)
