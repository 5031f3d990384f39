use Rattle.std.proofs.Common.{◌≡◌, Some, sym, refl, ap, ◌∙◌}
use Rattle.std.proofs.lemmas.Result.{err_from_is_err_and}
use Rattle.message.specs.Messages.{epoch_change}
use Rattle.message.specs.declared.messages.EpochChange.{EpochChange}
use Rattle.pronto.specs.Servers.{Site}
use Rattle.pronto.specs.Refusing.{first, running_table}
use Rattle.server.specs.Shown.{shown}
use Rattle.ensemble.specs.Whole.{state}
use Rattle.ensemble.proofs.Sent.{looked_refused, looked_found, sends_refused, server_known, sent_or_full}
use Rattle.ensemble.proofs.ensembles.Ensemble.suspect.Goals as goal

pub returns-in_err-message : goal.returns-in_err-message
returns-in_err-message g c =
    let e = c.args.self.now in
    let s = state g.B.Broadcast g.K.ReplicaBank g.K.DatabaseBank e in
    let i = c.args.server in
    let asked = c.in_ok-asked.ensures in
    let v = shown c.in_ok-asked.asked.now (s.servers i).db in
    let site : s.servers i ≡ v = sym asked.1.3 in
    let told = looked_refused {T = EpochChange} i (first (running_table v)) (λ x. epoch_change x.sender x.epoch ≡ epoch_change i v.epoch) c.epoch_message.result c.in_err-message.field-0.0 (c.epoch_message.ensures (s.servers i).db) c.in_err-message.ensures in
    let q = err_from_is_err_and c.from_residual-in_err-message.result c.from_residual-in_err-message.ensures.1 in
    rw (q.1, q.2) (sends_refused s i (λ (u : Site). first (running_table u)) v (server_known s i asked.0) site told.0 told.1 ∙ ap Some (sym told.2), refl)

pub returns : goal.returns
returns g c =
    let e = c.args.self.now in
    let s = state g.B.Broadcast g.K.ReplicaBank g.K.DatabaseBank e in
    let i = c.args.server in
    let asked = c.in_ok-asked.ensures in
    let v = shown c.in_ok-asked.asked.now (s.servers i).db in
    let site : s.servers i ≡ v = sym asked.1.3 in
    let found = looked_found {T = EpochChange} i (first (running_table v)) (λ x. epoch_change x.sender x.epoch ≡ epoch_change i v.epoch) c.epoch_message.result c.in_ok-message.message (c.epoch_message.ensures (s.servers i).db) c.in_ok-message.ensures in
    let o = c.send.ensures in
    let after = c.send.new.broadcast in
    sent_or_full s (g.B.Broadcast.log after) (g.B.Broadcast.waiting after) (g.B.Broadcast.capacity after) o.log o.capacity i c.send.new.sent _ _ v (λ (u : Site). first (running_table u)) (server_known s i asked.0) site found.0
    (found.1 ∙ ap (epoch_change i) (sym (ap (λ (u : Site). u.epoch) site))) c.send.result o.sends
