use Rattle.std.proofs.Common.{rules, ◌≡◌, length, get_or, None, sym, ap, ◌∙◌}
use Rattle.pronto.specs.Servers.{Site}
use Rattle.server.specs.Shown.{shown}
use Rattle.ensemble.specs.Whole.{state}
use Rattle.ensemble.proofs.Lifts.{site_there}
use Rattle.ensemble.proofs.Told.{known_server}
use Rattle.ensemble.proofs.ensembles.Ensemble.asked.Goals as goal

pub returns : goal.returns
returns g c =
    let e = c.args.self.now in
    let i = c.args.server in
    let p = c.in_ok-place.place in
    let v = get_or e.servers p c.index-self-place.result in
    let eight : length e.servers ≡ 8 = search rules in
    let s = state g.B.Broadcast g.K.ReplicaBank g.K.DatabaseBank e in
    let site : s.servers i ≡ shown v (g.K.ReplicaBank.meanings e.bank p) = site_there g.B.Broadcast g.K.ReplicaBank g.K.DatabaseBank e i p c.index-self-place.result c.in_ok-place.ensures eight in (
      known_server s i None c.in_ok-place.ensures.0,
      (sym (ap (λ (u : Site). u.running) site), sym (ap (λ (u : Site). u.epoch) site), sym (ap (λ (u : Site). u.delivered) site), ap (λ (u : Site). shown v u.db) site ∙ sym site),
    )
