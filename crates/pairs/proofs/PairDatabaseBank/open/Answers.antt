use Rattle.std.proofs.Common.{◌+◌, ◌-◌, sym, ap, ◌∙◌}
use Rattle.replica.specs.Meanings.{Meaning}
use Rattle.replica.specs.Calls.{opened}
use Rattle.replica.specs.Refusals.{open_refusal}
use Rattle.bank.specs.Places.{ahead}
use Rattle.pronto.specs.Refusing.{at_place}
use Rattle.pairs.proofs.Ahead.{at_first, at_rest, told_first, told_rest, out_first, out_rest}
use Rattle.pairs.proofs.PairDatabaseBank.open.Goals as goal

pub returns-then-place-eq0 : goal.returns-then-place-eq0
returns-then-place-eq0 g c =
    let a = c.args in let x = g.D.Replica.meaning a.self.now.first in let f = g.K.ReplicaBank.meanings a.self.now.rest in
    told_first {T = Unit {0}} a.place x f c.open.result (g.D.Replica.meaning c.open.new.self) (open_refusal x a.slot) (at_place (g.K.ReplicaBank.size + 1) a.place (open_refusal (ahead x f a.place) a.slot)) (λ _. Unit {0}) (λ _. Unit {0}) (opened x a.slot) (opened (ahead x f a.place) a.slot) c.if-place-eq0.true (out_first g.K.ReplicaBank.size a.place (open_refusal x a.slot) c.if-place-eq0.true ∙ ap (λ o. at_place (g.K.ReplicaBank.size + 1) a.place o) (ap (λ (m : Meaning). open_refusal m a.slot) (sym (at_first x f a.place c.if-place-eq0.true)))) (λ _ u. u) (ap (λ (m : Meaning). opened m a.slot) (sym (at_first x f a.place c.if-place-eq0.true))) c.open.ensures

pub returns-else-place-eq0 : goal.returns-else-place-eq0
returns-else-place-eq0 g c =
    let a = c.args in let x = g.D.Replica.meaning a.self.now.first in let f = g.K.ReplicaBank.meanings a.self.now.rest in
    told_rest {T = Unit {0}} a.place x f c.open-else-place-eq0.result (g.K.ReplicaBank.meanings c.open-else-place-eq0.new.self) (at_place g.K.ReplicaBank.size (a.place - 1) (open_refusal (f (a.place - 1)) a.slot)) (at_place (g.K.ReplicaBank.size + 1) a.place (open_refusal (ahead x f a.place) a.slot)) (λ _. Unit {0}) (λ _. Unit {0}) (opened (f (a.place - 1)) a.slot) (opened (ahead x f a.place) a.slot) c.if-place-eq0.false (out_rest g.K.ReplicaBank.size a.place (open_refusal (f (a.place - 1)) a.slot) c.if-place-eq0.false ∙ ap (λ o. at_place (g.K.ReplicaBank.size + 1) a.place o) (ap (λ (m : Meaning). open_refusal m a.slot) (sym (at_rest x f a.place c.if-place-eq0.false)))) (λ _ u. u) (ap (λ (m : Meaning). opened m a.slot) (sym (at_rest x f a.place c.if-place-eq0.false))) c.open-else-place-eq0.ensures
