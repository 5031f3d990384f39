use Rattle.std.proofs.Common.{rules, ◌≡◌, ℕ, length}
use Rattle.pronto.specs.Refusing.{run_why, run_result, run_after}
use Rattle.ensemble.proofs.Lifts.{acted}
use Rattle.ensemble.proofs.ensembles.Ensemble.run.Goals as goal

pub returns : goal.returns
returns g c =
    let a = c.args in
    let e = a.self.now in
    let eight : length e.servers ≡ 8 = search rules in
    rw c.at_server.ensures
    (acted g.B.Broadcast g.K.ReplicaBank g.K.DatabaseBank e a.id.server c.in_ok-place.place c.index-self-place.result c.in_ok-place.ensures eight
    {T = ℕ} (λ q v. run_why (g.K.DatabaseBank.units q) v a.id.client a.id.job a.cell a.operation) (λ q v x. x ≡ run_result v a.id.client a.id.job a.cell a.operation) (λ q v. run_after (g.K.DatabaseBank.units q) v a.id.client a.id.job a.cell a.operation) c.run-outcome.new.server c.run-outcome.new.bank c.run-outcome.result c.run-outcome.ensures)
