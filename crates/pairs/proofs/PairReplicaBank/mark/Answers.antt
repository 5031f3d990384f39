use Rattle.std.proofs.Common.{sym, ap, ◌∙◌}
use Rattle.pairs.proofs.Ahead.{at_first, at_rest}
use Rattle.pairs.proofs.PairReplicaBank.mark.Goals as goal

pub returns-then-place-eq0 : goal.returns-then-place-eq0
returns-then-place-eq0 g c =
    let a = c.args in c.mark.ensures ∙ ap (λ m. m.mark) (sym (at_first (g.D.Replica.meaning a.self.now.first) (g.K.ReplicaBank.meanings a.self.now.rest) a.place c.if-place-eq0.true))

pub returns-else-place-eq0 : goal.returns-else-place-eq0
returns-else-place-eq0 g c =
    let a = c.args in c.mark-else-place-eq0.ensures ∙ ap (λ m. m.mark) (sym (at_rest (g.D.Replica.meaning a.self.now.first) (g.K.ReplicaBank.meanings a.self.now.rest) a.place c.if-place-eq0.false))
