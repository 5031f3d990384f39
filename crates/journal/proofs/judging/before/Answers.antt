use Rattle.std.proofs.Common.{◌≡◌, ◌+◌, Some, sym, ap, ◌∙◌, arith}
use Rattle.broadcast.specs.Bags.{nth, heard}
use Rattle.message.specs.Messages.{msg_of}
use Rattle.journal.specs.Judging.{next, at}
use Rattle.journal.proofs.Summaries.{at_start, at_next, next_count, there}
use Rattle.journal.proofs.judging.before.Goals as goal

pub loop-q-init : goal.loop-q-init
loop-q-init g c =
    let l = g.B.Broadcast.log c.args.broadcast.now in
    let e = at_start l in
    ((sym (ap (λ j. j.epoch) e), sym (ap (λ j. j.seen c.args.client c.args.job) e)), ap (λ j. j.count) e, omega arith)

pub unwrap-message-requires : goal.unwrap-message-requires
unwrap-message-requires g c = there (g.B.Broadcast.log c.args.broadcast.now) c.loop-q.q _ (omega arith) c.message_at.ensures

pub loop-q-preserved : goal.loop-q-preserved
loop-q-preserved g c =
    let l = g.B.Broadcast.log c.args.broadcast.now in
    let q = c.loop-q.q in
    let m = msg_of c.unwrap-message.result.now in
    let found : Some m ≡ nth l q = ap heard (sym c.unwrap-message.ensures) ∙ c.message_at.ensures in
    let e : at l (q + 1) ≡ next (at l q) m = at_next l q m (sym found) in
    let s = c.past-so_far.ensures.step (at l q) c.loop-q.invariant.1 c.loop-q.invariant.0 in (
      (s.0 ∙ sym (ap (λ j. j.epoch) e), s.1 ∙ sym (ap (λ j. j.seen c.args.client c.args.job) e)),
      ap (λ j. j.count) e ∙ next_count (at l q) m ∙ ap (λ n. n + 1) c.loop-q.invariant.1,
      omega (arith, c.past-so_far.ensures.slow, c.loop-q.invariant.2),
    )
