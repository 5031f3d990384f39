use Rattle.std.proofs.Common.{rules, ◌≡◌, ◌<◌, length, Some, None, sym, refl, ap, ◌∙◌, subst, arith}
use Rattle.std.proofs.lemmas.Bool.{cond-true}
use Rattle.std.proofs.lemmas.Result.{err_from_is_err_and}
use Rattle.pronto.specs.Servers.{Site, begun}
use Rattle.pronto.specs.Refusing.{first, begin_table, begin_why}
use Rattle.pronto.specs.Acts.{NothingTold}
use Rattle.ensemble.proofs.Lifts.{acted, site_there, nobody_there}
use Rattle.ensemble.proofs.ensembles.Ensemble.begin.Goals as goal

pub returns-in_err-place : goal.returns-in_err-place
returns-in_err-place g c =
    let a = c.args in
    let e = a.self.now in
    let none = c.in_err-place.ensures.0 in
    let q = err_from_is_err_and c.from_residual.result c.from_residual.ensures.1 in
    record {
      slot = 0;
      free = λ _. (omega arith, ap (λ (v : Site). v.rows 0) (nobody_there e.count.count e.servers (g.K.ReplicaBank.meanings e.bank) a.id.server none));
      did = rw (q.1, q.2) (cond-true _ _ _ none ∙ ap Some (sym c.in_err-place.ensures.1), refl);
    }

pub returns : goal.returns
returns g c =
    let a = c.args in
    let e = a.self.now in
    let i = a.id.server in
    let ms = g.K.ReplicaBank.meanings e.bank in
    let eight : length e.servers ≡ 8 = search rules in
    let began = c.begin-outcome.ensures in
    let site = site_there g.B.Broadcast g.K.ReplicaBank g.K.DatabaseBank e i c.in_ok-place.place c.index-self-place.result c.in_ok-place.ensures eight in
    let Free : Site → Type 0 = λ v. first (begin_table e.count.count i v a.id.client a.id.job) ≡ None → (began.slot < 8) × (v.rows began.slot ≡ None) in
    rw c.at_server.ensures
    (record {
      slot = began.slot;
      free = subst Free (sym site) began.free;
      did = acted g.B.Broadcast g.K.ReplicaBank g.K.DatabaseBank e i c.in_ok-place.place c.index-self-place.result c.in_ok-place.ensures eight
          {T = Unit {0}} (λ q v. begin_why g.K.ReplicaBank.size q e.count.count i v a.id.client a.id.job began.slot) (λ q. NothingTold) (λ q v. begun v began.slot a.id.client a.id.job)
          c.begin-outcome.new.server c.begin-outcome.new.bank c.begin-outcome.result began.settled;
    })
