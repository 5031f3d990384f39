use Rattle.std.proofs.Common.{◌-◌, sym, ap}
use Rattle.replica.specs.Meanings.{Meaning}
use Rattle.replica.specs.Calls.{sealed}
use Rattle.replica.specs.Refusals.{seal_refusal}
use Rattle.bank.specs.Places.{ahead}
use Rattle.pairs.proofs.Ahead.{at_first, at_rest, told_first, told_rest}
use Rattle.pairs.proofs.PairDatabaseBank.seal.Goals as goal

pub returns-then-place-eq0 : goal.returns-then-place-eq0
returns-then-place-eq0 g c =
    let a = c.args in let x = g.D.Replica.meaning a.self.now.first in let f = g.K.ReplicaBank.meanings a.self.now.rest in
    told_first {T = Unit {0}} a.place x f c.seal.result (g.D.Replica.meaning c.seal.new.self) (seal_refusal x a.slot a.position) (seal_refusal (ahead x f a.place) a.slot a.position) (λ _. Unit {0}) (λ _. Unit {0}) (sealed x a.slot a.position) (sealed (ahead x f a.place) a.slot a.position) c.if-place-eq0.true (ap (λ (m : Meaning). seal_refusal m a.slot a.position) (sym (at_first x f a.place c.if-place-eq0.true))) (λ _ u. u) (ap (λ (m : Meaning). sealed m a.slot a.position) (sym (at_first x f a.place c.if-place-eq0.true))) c.seal.ensures

pub returns-else-place-eq0 : goal.returns-else-place-eq0
returns-else-place-eq0 g c =
    let a = c.args in let x = g.D.Replica.meaning a.self.now.first in let f = g.K.ReplicaBank.meanings a.self.now.rest in
    told_rest {T = Unit {0}} a.place x f c.seal-else-place-eq0.result (g.K.ReplicaBank.meanings c.seal-else-place-eq0.new.self) (seal_refusal (f (a.place - 1)) a.slot a.position) (seal_refusal (ahead x f a.place) a.slot a.position) (λ _. Unit {0}) (λ _. Unit {0}) (sealed (f (a.place - 1)) a.slot a.position) (sealed (ahead x f a.place) a.slot a.position) c.if-place-eq0.false (ap (λ (m : Meaning). seal_refusal m a.slot a.position) (sym (at_rest x f a.place c.if-place-eq0.false))) (λ _ u. u) (ap (λ (m : Meaning). sealed m a.slot a.position) (sym (at_rest x f a.place c.if-place-eq0.false))) c.seal-else-place-eq0.ensures
