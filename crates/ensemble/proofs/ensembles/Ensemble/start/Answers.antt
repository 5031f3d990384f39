use Rattle.std.proofs.Common.{rules, ◌≡◌, ℕ, length, get_or, subst}
use Rattle.pronto.specs.Servers.{started}
use Rattle.pronto.specs.Refusing.{first, start_table}
use Rattle.pronto.specs.Acts.{NothingTold}
use Rattle.server.specs.Acting.{Starts}
use Rattle.ensemble.proofs.Lifts.{acted}
use Rattle.ensemble.proofs.ensembles.Ensemble.start.Goals as goal

pub returns : goal.returns
returns g c =
    let a = c.args in
    let e = a.self.now in
    let b = e.broadcast in
    let eight : length e.servers ≡ 8 = search rules in
    rw c.at_server.ensures
    (acted g.B.Broadcast g.K.ReplicaBank g.K.DatabaseBank e a.server c.in_ok-place.place c.index-self-place.result c.in_ok-place.ensures eight
    {T = Unit {0}} (λ q v. first (start_table v)) (λ q. NothingTold) (λ q v. started v (length (g.B.Broadcast.log b))) c.start-outcome.new.server e.bank c.start-outcome.result (let F : ℕ → Type 0 = λ x. Starts x c.start-outcome.result c.in_ok-place.place (get_or e.servers c.in_ok-place.place c.index-self-place.result) (g.K.ReplicaBank.meanings e.bank) c.start-outcome.new.server (g.K.ReplicaBank.meanings e.bank) in subst F c.ordered_count-bar.ensures (c.start-outcome.ensures c.in_ok-place.place (g.K.ReplicaBank.meanings e.bank))))
