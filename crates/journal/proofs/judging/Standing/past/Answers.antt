use Rattle.std.proofs.Common.{◌≡◌, ◌+◌, true, false, Some, sym, ap, ◌∙◌}
use Rattle.std.specs.Option.{option_or}
use Rattle.std.proofs.lemmas.Bool.{eq-eqb, ne_eqb}
use Rattle.message.specs.Messages.{msg_of, tx_of, transaction}
use Rattle.journal.specs.Judging.{next}
use Rattle.journal.proofs.Summaries.{epoch_moves, transaction_epoch, transaction_late, transaction_other, transaction_seen}
use Rattle.journal.proofs.judging.Standing.past.Goals as goal

pub returns-then-change-self-clause-step : goal.returns-then-change-self-clause-step
returns-then-change-self-clause-step c =
    let a = c.args in
    let h = c.in-Epoch in
    λ j n st.
    let e : next j (msg_of a.message.now) ≡ _ = ap (λ m. next j (msg_of m)) h.is ∙ epoch_moves j h.change.sender h.change.epoch false (ne_eqb h.change.epoch j.epoch (λ s. c.if-change-self.true (s ∙ sym st.0))) in
    (st.0 ∙ sym (ap (λ s. s.epoch) e), st.1 ∙ sym (ap (λ s. s.seen a.client a.job) e))

pub returns-else-change-self-clause-step : goal.returns-else-change-self-clause-step
returns-else-change-self-clause-step c =
    let a = c.args in
    let h = c.in-Epoch in
    λ j n st.
    let e : next j (msg_of a.message.now) ≡ _ = ap (λ m. next j (msg_of m)) h.is ∙ epoch_moves j h.change.sender h.change.epoch true (eq-eqb h.change.epoch j.epoch (c.if-change-self.false ∙ st.0)) in
    (ap (λ x. x + 1) st.0 ∙ sym (ap (λ s. s.epoch) e), st.1 ∙ sym (ap (λ s. s.seen a.client a.job) e))

pub returns-then-t-self-clause-step : goal.returns-then-t-self-clause-step
returns-then-t-self-clause-step c =
    let a = c.args in
    let h = c.in-Transaction in
    let t = tx_of h.t in
    λ j n st. (
      st.0 ∙ sym (ap (λ m. (next j (msg_of m)).epoch) h.is ∙ transaction_epoch j t),
      st.1 ∙ sym (ap (λ m. (next j (msg_of m)).seen a.client a.job) h.is ∙ transaction_late j t a.client a.job (λ s. c.if-t-self.true (s ∙ sym st.0))),
    )

pub returns-then-t-client-clause-step : goal.returns-then-t-client-clause-step
returns-then-t-client-clause-step c =
    let a = c.args in
    let h = c.in-Transaction in
    let t = tx_of h.t in
    λ j n st. (
      st.0 ∙ sym (ap (λ m. (next j (msg_of m)).epoch) h.is ∙ transaction_epoch j t),
      st.1 ∙ sym (ap (λ m. (next j (msg_of m)).seen a.client a.job) h.is ∙ transaction_other j a.client a.job t (λ s _. c.if-t-client.true s)),
    )

pub returns-then-t-job-clause-step : goal.returns-then-t-job-clause-step
returns-then-t-job-clause-step c =
    let a = c.args in
    let h = c.in-Transaction in
    let t = tx_of h.t in
    λ j n st. (
      st.0 ∙ sym (ap (λ m. (next j (msg_of m)).epoch) h.is ∙ transaction_epoch j t),
      st.1 ∙ sym (ap (λ m. (next j (msg_of m)).seen a.client a.job) h.is ∙ transaction_other j a.client a.job t (λ _ s. c.if-t-job.true s)),
    )

pub returns-else-t-job-clause-step : goal.returns-else-t-job-clause-step
returns-else-t-job-clause-step c =
    let a = c.args in
    let h = c.in-Transaction in
    let t = tx_of h.t in
    λ j n st.
    let on : t.epoch ≡ j.epoch = c.if-t-self.false ∙ st.0 in
    let known : j.seen t.client t.job ≡ a.self.earlier = ap (λ x. j.seen x t.job) c.if-t-client.false ∙ ap (j.seen a.client) c.if-t-job.false ∙ sym st.1 in (
      st.0 ∙ sym (ap (λ m. (next j (msg_of m)).epoch) h.is ∙ transaction_epoch j t),
      c.or.ensures ∙ sym (ap (λ m. (next j (msg_of m)).seen a.client a.job) h.is
          ∙ ap (λ x. (next j (transaction t)).seen x a.job) (sym c.if-t-client.false) ∙ ap ((next j (transaction t)).seen t.client) (sym c.if-t-job.false)
          ∙ transaction_seen j t a.self.earlier on known ∙ ap (λ k. option_or a.self.earlier (Some k)) n),
    )
