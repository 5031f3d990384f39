use Rattle.std.proofs.Common.{◌-◌, sym, ap, ◌∙◌}
use Rattle.replica.specs.Meanings.{upd}
use Rattle.replica.specs.Calls.{lost}
use Rattle.bank.specs.Places.{ahead}
use Rattle.pairs.proofs.Ahead.{at_first, at_rest, put_first, put_rest}
use Rattle.pairs.proofs.PairDatabaseBank.lose.Goals as goal

pub returns-then-place-eq0 : goal.returns-then-place-eq0
returns-then-place-eq0 g c =
    let a = c.args in let x = g.D.Replica.meaning a.self.now.first in let f = g.K.ReplicaBank.meanings a.self.now.rest in
    ap (λ m. ahead m f) c.lose.ensures ∙ put_first x (lost x) f a.place c.if-place-eq0.true ∙ ap (λ m. upd (ahead x f) a.place (lost m)) (sym (at_first x f a.place c.if-place-eq0.true))

pub returns-else-place-eq0 : goal.returns-else-place-eq0
returns-else-place-eq0 g c =
    let a = c.args in let x = g.D.Replica.meaning a.self.now.first in let f = g.K.ReplicaBank.meanings a.self.now.rest in
    ap (ahead x) c.lose-else-place-eq0.ensures ∙ put_rest x (lost (f (a.place - 1))) f a.place c.if-place-eq0.false ∙ ap (λ m. upd (ahead x f) a.place (lost m)) (sym (at_rest x f a.place c.if-place-eq0.false))
