use Rattle.std.proofs.Common.{sym, subst}
use Rattle.replica.specs.Meanings.{Meaning}
use Rattle.replica.specs.Refusals.{cell_refusal}
use Rattle.replica.specs.Outcomes.{Shown}
use Rattle.pairs.proofs.Ahead.{at_first, at_rest}
use Rattle.pairs.proofs.PairReplicaBank.cell.Goals as goal

pub returns-then-place-eq0 : goal.returns-then-place-eq0
returns-then-place-eq0 g c =
    let a = c.args in let F : Meaning → Type 0 = λ m. Shown c.cell.result (cell_refusal a.cell) (m.cells a.cell) in
    subst F (sym (at_first (g.D.Replica.meaning a.self.now.first) (g.K.ReplicaBank.meanings a.self.now.rest) a.place c.if-place-eq0.true)) c.cell.ensures

pub returns-else-place-eq0 : goal.returns-else-place-eq0
returns-else-place-eq0 g c =
    let a = c.args in let F : Meaning → Type 0 = λ m. Shown c.cell-else-place-eq0.result (cell_refusal a.cell) (m.cells a.cell) in
    subst F (sym (at_rest (g.D.Replica.meaning a.self.now.first) (g.K.ReplicaBank.meanings a.self.now.rest) a.place c.if-place-eq0.false)) c.cell-else-place-eq0.ensures
