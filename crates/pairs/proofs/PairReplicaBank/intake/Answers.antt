use Rattle.std.proofs.Common.{◌+◌, ◌-◌, sym, ap, ◌∙◌}
use Rattle.replica.specs.Meanings.{Meaning}
use Rattle.replica.specs.Calls.{taken_in}
use Rattle.replica.specs.Refusals.{intake_refusal}
use Rattle.bank.specs.Places.{ahead}
use Rattle.pronto.specs.Refusing.{at_place}
use Rattle.pairs.proofs.Ahead.{at_first, at_rest, told_first, told_rest, out_first, out_rest}
use Rattle.pairs.proofs.PairReplicaBank.intake.Goals as goal

pub returns-then-place-eq0 : goal.returns-then-place-eq0
returns-then-place-eq0 g c =
    let a = c.args in let x = g.D.Replica.meaning a.self.now.first in let f = g.K.ReplicaBank.meanings a.self.now.rest in
    told_first {T = Unit {0}} a.place x f c.intake.result (g.D.Replica.meaning c.intake.new.self) (intake_refusal x a.position) (at_place (g.K.ReplicaBank.size + 1) a.place (intake_refusal (ahead x f a.place) a.position)) (λ _. Unit {0}) (λ _. Unit {0}) (taken_in x a.statements.now a.position) (taken_in (ahead x f a.place) a.statements.now a.position) c.if-place-eq0.true (out_first g.K.ReplicaBank.size a.place (intake_refusal x a.position) c.if-place-eq0.true ∙ ap (λ o. at_place (g.K.ReplicaBank.size + 1) a.place o) (ap (λ (m : Meaning). intake_refusal m a.position) (sym (at_first x f a.place c.if-place-eq0.true)))) (λ _ u. u) (ap (λ (m : Meaning). taken_in m a.statements.now a.position) (sym (at_first x f a.place c.if-place-eq0.true))) c.intake.ensures

pub returns-else-place-eq0 : goal.returns-else-place-eq0
returns-else-place-eq0 g c =
    let a = c.args in let x = g.D.Replica.meaning a.self.now.first in let f = g.K.ReplicaBank.meanings a.self.now.rest in
    told_rest {T = Unit {0}} a.place x f c.intake-else-place-eq0.result (g.K.ReplicaBank.meanings c.intake-else-place-eq0.new.self) (at_place g.K.ReplicaBank.size (a.place - 1) (intake_refusal (f (a.place - 1)) a.position)) (at_place (g.K.ReplicaBank.size + 1) a.place (intake_refusal (ahead x f a.place) a.position)) (λ _. Unit {0}) (λ _. Unit {0}) (taken_in (f (a.place - 1)) a.statements.now a.position) (taken_in (ahead x f a.place) a.statements.now a.position) c.if-place-eq0.false (out_rest g.K.ReplicaBank.size a.place (intake_refusal (f (a.place - 1)) a.position) c.if-place-eq0.false ∙ ap (λ o. at_place (g.K.ReplicaBank.size + 1) a.place o) (ap (λ (m : Meaning). intake_refusal m a.position) (sym (at_rest x f a.place c.if-place-eq0.false)))) (λ _ u. u) (ap (λ (m : Meaning). taken_in m a.statements.now a.position) (sym (at_rest x f a.place c.if-place-eq0.false))) c.intake-else-place-eq0.ensures
