use Rattle.std.proofs.Common.{ap, ◌∙◌, arith}
use Rattle.pronto.specs.Servers.{Site}
use Rattle.pronto.specs.Refusing.{find}
use Rattle.server.specs.Looking.{state_found}
use Rattle.ensemble.specs.Whole.{state}
use Rattle.ensemble.proofs.Told.{told_state}
use Rattle.ensemble.proofs.ensembles.Ensemble.transaction_state.Goals as goal

pub returns : goal.returns
returns g c =
    let s = state g.B.Broadcast g.K.ReplicaBank g.K.DatabaseBank c.args.self.now in
    let i = c.args.id.server in
    let k = c.args.id.client in
    let j = c.args.id.job in
    let asked = c.in_ok-asked.ensures in
    rw c.ok_or.ensures.value
    (told_state s i k j c.transaction_state.result asked.0 (omega arith) (c.transaction_state.ensures (s.servers i).db ∙ ap (λ (u : Site). state_found (find u k j)) asked.1.3))
