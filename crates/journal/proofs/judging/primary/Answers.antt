use Rattle.std.proofs.Common.{◌+◌, ◌%◌, ap, arith}
use Rattle.journal.specs.Judging.{primary}
use Rattle.journal.proofs.judging.primary.Goals as goal

pub returns : goal.returns
unfolding primary
returns c = (omega arith, ap (λ k. k % c.args.servers + 1) c.saturating_sub.ensures)
