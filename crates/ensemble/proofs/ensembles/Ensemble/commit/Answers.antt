use Rattle.std.proofs.Common.{rules, ◌≡◌, ◌+◌, ◌%◌, ◌^◌, length, get_or, Some, sym, refl, ap, ◌∙◌, subst}
use Rattle.std.proofs.lemmas.Result.{err_from_is_err_and}
use Rattle.message.specs.Messages.{Msg, transaction, tx_of}
use Rattle.message.specs.declared.messages.Transaction.{Transaction}
use Rattle.broadcast.specs.Bags.{Inserted}
use Rattle.pronto.specs.Servers.{Site}
use Rattle.pronto.specs.Refusing.{first, open_table, commit_after}
use Rattle.pronto.specs.Acts.{message_to_commit}
use Rattle.pronto.specs.States.{with_messages, with_servers}
use Rattle.replica.specs.Meanings.{upd}
use Rattle.server.specs.Shown.{shown}
use Rattle.ensemble.specs.Whole.{state, site_at}
use Rattle.replica.proofs.Updates.{upd_self}
use Rattle.ensemble.proofs.Lifts.{site_there, state_after}
use Rattle.ensemble.proofs.Sent.{looked_refused, looked_found, sends_refused, sends_full, sends_free, sent_now, not_sent}
use Rattle.ensemble.proofs.ensembles.Ensemble.commit.Goals as goal

pub returns-in_err-message : goal.returns-in_err-message
returns-in_err-message g c =
    let e = c.args.self.now in
    let s = state g.B.Broadcast g.K.ReplicaBank g.K.DatabaseBank e in
    let i = c.args.id.server in
    let ms = g.K.ReplicaBank.meanings e.bank in
    let p = c.in_ok-place.place in
    let place = c.in_ok-place.ensures in
    let d = c.index-self-place.result in
    let eight : length e.servers ≡ 8 = search rules in
    let v = shown (get_or e.servers p d) (ms p) in
    let site = site_there g.B.Broadcast g.K.ReplicaBank g.K.DatabaseBank e i p d place eight in
    let told = looked_refused {T = Transaction} i (first (open_table v c.args.id.client c.args.id.job)) (λ t. transaction (tx_of t) ≡ message_to_commit i v c.args.id.client c.args.id.job) c.commit_message.result c.in_err-message.field-0.0 (c.commit_message.ensures (ms p)) c.in_err-message.ensures in
    let q = err_from_is_err_and c.from_residual-in_err-message.result c.from_residual-in_err-message.ensures.1 in
    rw (q.1, q.2) (sends_refused s i (λ (u : Site). first (open_table u c.args.id.client c.args.id.job)) v place.0 site told.0 told.1 ∙ ap Some (sym told.2), refl)

pub returns-in_err-send : goal.returns-in_err-send
returns-in_err-send g c =
    let e = c.args.self.now in
    let s = state g.B.Broadcast g.K.ReplicaBank g.K.DatabaseBank e in
    let i = c.args.id.server in
    let ms = g.K.ReplicaBank.meanings e.bank in
    let p = c.in_ok-place.place in
    let place = c.in_ok-place.ensures in
    let d = c.index-self-place.result in
    let eight : length e.servers ≡ 8 = search rules in
    let v = shown (get_or e.servers p d) (ms p) in
    let site = site_there g.B.Broadcast g.K.ReplicaBank g.K.DatabaseBank e i p d place eight in
    let found = looked_found {T = Transaction} i (first (open_table v c.args.id.client c.args.id.job)) (λ t. transaction (tx_of t) ≡ message_to_commit i v c.args.id.client c.args.id.job) c.commit_message.result c.in_ok-message.message (c.commit_message.ensures (ms p)) c.in_ok-message.ensures in
    let o = c.in_err-send.ensures in
    let after = c.send.new.broadcast in
    let q = err_from_is_err_and c.from_residual-in_err-send.result c.from_residual-in_err-send.ensures.1 in
    rw (q.1, q.2) (
      sends_full s i (λ (u : Site). first (open_table u c.args.id.client c.args.id.job)) v place.0 site found.0 o.sends.0 ∙ ap Some (sym o.sends.3),
      not_sent s (g.B.Broadcast.log after) (g.B.Broadcast.waiting after) (g.B.Broadcast.capacity after) o.log o.capacity c.send.new.sent o.sends.1 o.sends.2,
    )

pub returns : goal.returns
returns g c =
    let e = c.args.self.now in
    let s = state g.B.Broadcast g.K.ReplicaBank g.K.DatabaseBank e in
    let i = c.args.id.server in
    let ms = g.K.ReplicaBank.meanings e.bank in
    let p = c.in_ok-place.place in
    let place = c.in_ok-place.ensures in
    let d = c.index-self-place.result in
    let eight : length e.servers ≡ 8 = search rules in
    let v = shown (get_or e.servers p d) (ms p) in
    let site = site_there g.B.Broadcast g.K.ReplicaBank g.K.DatabaseBank e i p d place eight in
    let again = site_there g.B.Broadcast g.K.ReplicaBank g.K.DatabaseBank e i p c.index-self-place-2.result place eight in
    let found = looked_found {T = Transaction} i (first (open_table v c.args.id.client c.args.id.job)) (λ t. transaction (tx_of t) ≡ message_to_commit i v c.args.id.client c.args.id.job) c.commit_message.result c.in_ok-message.message (c.commit_message.ensures (ms p)) c.in_ok-message.ensures in
    let o = c.in_ok-send.ensures in
    let after = c.send.new.broadcast in
    let F : Msg → Type 0 = λ m. Inserted m s.waiting (g.B.Broadcast.waiting after) in (
      sends_free s i (λ (u : Site). first (open_table u c.args.id.client c.args.id.job)) v place.0 site found.0 o.sends.0,
      subst F (found.1 ∙ ap (λ (u : Site). message_to_commit i u c.args.id.client c.args.id.job) (sym site)) o.sends.1,
      state_after (g.B.Broadcast.log after) (g.B.Broadcast.waiting after) (g.B.Broadcast.capacity after) e.count.count g.K.ReplicaBank.size g.K.DatabaseBank.units c.send.new.sent e.servers ms i p d place eight c.send_off.new.self ms (sym (upd_self ms p))
          ∙ sent_now (with_servers s (upd (site_at e.count.count e.servers ms) i (shown c.send_off.new.self (ms p)))) (g.B.Broadcast.log after) (g.B.Broadcast.waiting after) (g.B.Broadcast.capacity after) o.log o.capacity c.send.new.sent ((s.sent + 1) % 2 ^ 64) o.sends.2
          ∙ ap (λ (u : Site). with_messages (with_servers s (upd s.servers i u)) s.log (g.B.Broadcast.waiting after) ((s.sent + 1) % 2 ^ 64))
          (c.send_off.ensures (ms p) ∙ ap (λ (u : Site). commit_after u c.args.id.client c.args.id.job) (sym again)),
    )
