use Rattle.std.proofs.Common.{◌<◌, true, false, length, Some, None, sym, refl, ap, ◌∙◌, arith}
use Rattle.std.proofs.lemmas.Bool.{eq-eqb, ne_eqb}
use Rattle.message.specs.Messages.{msg_of, tx_of}
use Rattle.journal.specs.Judging.{at, judge}
use Rattle.broadcast.proofs.Positions.{nth_some}
use Rattle.journal.proofs.Summaries.{epoch_judged, transaction_judged, judged_is}
use Rattle.journal.proofs.judging.judge.Goals as goal

pub before-then-requires-in-Transaction : goal.before-then-requires-in-Transaction
before-then-requires-in-Transaction g c =
    let l = g.B.Broadcast.log c.args.broadcast.now in
    let h : c.args.position < length l = nth_some l c.args.position _ (sym c.in_ok-message.ensures) in
    omega arith

pub returns-then-change-then : goal.returns-then-change-then
returns-then-change-then g c =
    let l = g.B.Broadcast.log c.args.broadcast.now in
    let j = at l c.args.position in
    let h = c.in-Epoch.change in
    judged_is l c.args.position (msg_of c.in_ok-message.message.now) _ (sym c.in_ok-message.ensures)
    (ap (λ m. judge j (msg_of m)) c.in-Epoch.is ∙ epoch_judged j h.sender h.epoch false (ne_eqb h.epoch j.epoch (λ s. c.if-change-then.true (s ∙ sym c.before-then.ensures.0))))

pub returns-else-change-then : goal.returns-else-change-then
returns-else-change-then g c =
    let l = g.B.Broadcast.log c.args.broadcast.now in
    let j = at l c.args.position in
    let h = c.in-Epoch.change in
    judged_is l c.args.position (msg_of c.in_ok-message.message.now) _ (sym c.in_ok-message.ensures)
    (ap (λ m. judge j (msg_of m)) c.in-Epoch.is ∙ epoch_judged j h.sender h.epoch true (eq-eqb h.epoch j.epoch (c.if-change-then.false ∙ c.before-then.ensures.0)))

pub returns-then-t-then : goal.returns-then-t-then
returns-then-t-then g c =
    let l = g.B.Broadcast.log c.args.broadcast.now in
    let j = at l c.args.position in
    let t = tx_of c.in-Transaction.t in
    judged_is l c.args.position (msg_of c.in_ok-message.message.now) _ (sym c.in_ok-message.ensures)
    (ap (λ m. judge j (msg_of m)) c.in-Transaction.is ∙ transaction_judged j t false (j.seen t.client t.job) (ne_eqb t.epoch j.epoch (λ s. c.if-t-then.true (s ∙ sym c.before-then-in-Transaction.ensures.0))) (refl))

pub returns-in-Some : goal.returns-in-Some
returns-in-Some g c =
    let l = g.B.Broadcast.log c.args.broadcast.now in
    let j = at l c.args.position in
    let t = tx_of c.in-Transaction.t in
    judged_is l c.args.position (msg_of c.in_ok-message.message.now) _ (sym c.in_ok-message.ensures)
    (ap (λ m. judge j (msg_of m)) c.in-Transaction.is ∙ transaction_judged j t true (Some c.in-Some.earlier) (eq-eqb t.epoch j.epoch (c.if-t-then.false ∙ c.before-then-in-Transaction.ensures.0)) (sym c.before-then-in-Transaction.ensures.1 ∙ c.in-Some.is))

pub returns-in-None : goal.returns-in-None
returns-in-None g c =
    let l = g.B.Broadcast.log c.args.broadcast.now in
    let j = at l c.args.position in
    let t = tx_of c.in-Transaction.t in
    judged_is l c.args.position (msg_of c.in_ok-message.message.now) _ (sym c.in_ok-message.ensures)
    (ap (λ m. judge j (msg_of m)) c.in-Transaction.is ∙ transaction_judged j t true None (eq-eqb t.epoch j.epoch (c.if-t-then.false ∙ c.before-then-in-Transaction.ensures.0)) (sym c.before-then-in-Transaction.ensures.1 ∙ c.in-None.is))
