use Rattle.std.proofs.Common.{rules, ◌≡◌, length}
use Rattle.pronto.specs.Servers.{stopped}
use Rattle.pronto.specs.Refusing.{first, running_table}
use Rattle.pronto.specs.Acts.{NothingTold}
use Rattle.ensemble.proofs.Lifts.{acted}
use Rattle.ensemble.proofs.ensembles.Ensemble.stop.Goals as goal

pub returns : goal.returns
returns g c =
    let a = c.args in
    let e = a.self.now in
    let eight : length e.servers ≡ 8 = search rules in
    rw c.at_server.ensures
    (acted g.B.Broadcast g.K.ReplicaBank g.K.DatabaseBank e a.server c.in_ok-place.place c.index-self-place.result c.in_ok-place.ensures eight
    {T = Unit {0}} (λ q v. first (running_table v)) (λ q. NothingTold) (λ q. stopped) c.stop-outcome.new.server c.stop-outcome.new.bank c.stop-outcome.result c.stop-outcome.ensures)
