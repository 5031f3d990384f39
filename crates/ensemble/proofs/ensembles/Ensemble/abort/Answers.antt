use Rattle.std.proofs.Common.{rules, ◌≡◌, length}
use Rattle.pronto.specs.Refusing.{abort_why, abort_after}
use Rattle.pronto.specs.Acts.{NothingTold}
use Rattle.ensemble.proofs.Lifts.{acted}
use Rattle.ensemble.proofs.ensembles.Ensemble.abort.Goals as goal

pub returns : goal.returns
returns g c =
    let a = c.args in
    let e = a.self.now in
    let eight : length e.servers ≡ 8 = search rules in
    rw c.at_server.ensures
    (acted g.B.Broadcast g.K.ReplicaBank g.K.DatabaseBank e a.id.server c.in_ok-place.place c.index-self-place.result c.in_ok-place.ensures eight
    {T = Unit {0}} (λ q v. abort_why v a.id.client a.id.job) (λ q. NothingTold) (λ q v. abort_after v a.id.client a.id.job) c.abort-outcome.new.server c.abort-outcome.new.bank c.abort-outcome.result c.abort-outcome.ensures)
