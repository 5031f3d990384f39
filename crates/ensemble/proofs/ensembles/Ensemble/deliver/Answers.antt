use Rattle.std.proofs.Common.{rules, ◌≡◌, ℕ, length}
use Rattle.journal.specs.declared.verdicts.Judgement.{Judgement}
use Rattle.pronto.specs.Delivering.{deliver_why, deliver_after, Tells}
use Rattle.ensemble.proofs.Lifts.{acted}
use Rattle.ensemble.proofs.ensembles.Ensemble.deliver.Goals as goal

pub returns : goal.returns
returns g c =
    let a = c.args in
    let e = a.self.now in
    let b = e.broadcast in
    let eight : length e.servers ≡ 8 = search rules in
    rw c.at_server.ensures
    (acted g.B.Broadcast g.K.ReplicaBank g.K.DatabaseBank e a.server c.in_ok-place.place c.index-self-place.result c.in_ok-place.ensures eight
    {T = ℕ × Judgement} (λ q. deliver_why (g.B.Broadcast.log b) g.K.ReplicaBank.size q a.server) (λ q. Tells (g.B.Broadcast.log b)) (λ q. deliver_after (g.B.Broadcast.log b) a.server) c.deliver-outcome.new.server c.deliver-outcome.new.bank c.deliver-outcome.result c.deliver-outcome.ensures)
