use Rattle.std.proofs.Common.{◌-◌, sym, ap}
use Rattle.replica.specs.Meanings.{Meaning}
use Rattle.replica.specs.Calls.{undone}
use Rattle.replica.specs.Refusals.{undo_refusal}
use Rattle.bank.specs.Places.{ahead}
use Rattle.pairs.proofs.Ahead.{at_first, at_rest, told_first, told_rest}
use Rattle.pairs.proofs.PairDatabaseBank.undo.Goals as goal

pub returns-then-place-eq0 : goal.returns-then-place-eq0
returns-then-place-eq0 g c =
    let a = c.args in let x = g.D.Replica.meaning a.self.now.first in let f = g.K.ReplicaBank.meanings a.self.now.rest in
    told_first {T = Unit {0}} a.place x f c.undo.result (g.D.Replica.meaning c.undo.new.self) (undo_refusal x a.slot) (undo_refusal (ahead x f a.place) a.slot) (λ _. Unit {0}) (λ _. Unit {0}) (undone x a.slot) (undone (ahead x f a.place) a.slot) c.if-place-eq0.true (ap (λ (m : Meaning). undo_refusal m a.slot) (sym (at_first x f a.place c.if-place-eq0.true))) (λ _ u. u) (ap (λ (m : Meaning). undone m a.slot) (sym (at_first x f a.place c.if-place-eq0.true))) c.undo.ensures

pub returns-else-place-eq0 : goal.returns-else-place-eq0
returns-else-place-eq0 g c =
    let a = c.args in let x = g.D.Replica.meaning a.self.now.first in let f = g.K.ReplicaBank.meanings a.self.now.rest in
    told_rest {T = Unit {0}} a.place x f c.undo-else-place-eq0.result (g.K.ReplicaBank.meanings c.undo-else-place-eq0.new.self) (undo_refusal (f (a.place - 1)) a.slot) (undo_refusal (ahead x f a.place) a.slot) (λ _. Unit {0}) (λ _. Unit {0}) (undone (f (a.place - 1)) a.slot) (undone (ahead x f a.place) a.slot) c.if-place-eq0.false (ap (λ (m : Meaning). undo_refusal m a.slot) (sym (at_rest x f a.place c.if-place-eq0.false))) (λ _ u. u) (ap (λ (m : Meaning). undone m a.slot) (sym (at_rest x f a.place c.if-place-eq0.false))) c.undo-else-place-eq0.ensures
