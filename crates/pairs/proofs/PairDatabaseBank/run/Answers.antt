use Rattle.std.proofs.Common.{◌≡◌, ℕ, ◌-◌, sym, ap, ◌∙◌}
use Rattle.replica.specs.Meanings.{Meaning}
use Rattle.replica.specs.Calls.{ran, run_answer}
use Rattle.replica.specs.Refusals.{run_refusal}
use Rattle.bank.specs.Places.{ahead}
use Rattle.pairs.proofs.Ahead.{at_first, at_rest, told_first, told_rest}
use Rattle.pairs.proofs.PairDatabaseBank.run.Goals as goal

pub returns-then-place-eq0 : goal.returns-then-place-eq0
returns-then-place-eq0 g c =
    let a = c.args in let x = g.D.Replica.meaning a.self.now.first in let f = g.K.ReplicaBank.meanings a.self.now.rest in
    told_first {T = ℕ} a.place x f c.run.result (g.D.Replica.meaning c.run.new.self) (run_refusal g.D.Database.unit x a.slot a.statement.now) (run_refusal (ahead g.D.Database.unit g.K.DatabaseBank.units a.place) (ahead x f a.place) a.slot a.statement.now) (λ v. v ≡ run_answer x a.slot a.statement.now) (λ v. v ≡ run_answer (ahead x f a.place) a.slot a.statement.now) (ran g.D.Database.unit x a.slot a.statement.now) (ran (ahead g.D.Database.unit g.K.DatabaseBank.units a.place) (ahead x f a.place) a.slot a.statement.now) c.if-place-eq0.true (ap (λ (m : Meaning). run_refusal g.D.Database.unit m a.slot a.statement.now) (sym (at_first x f a.place c.if-place-eq0.true)) ∙ ap (λ (u : ℕ → ℕ). run_refusal u (ahead x f a.place) a.slot a.statement.now) (sym (at_first g.D.Database.unit g.K.DatabaseBank.units a.place c.if-place-eq0.true))) (λ v h. h ∙ ap (λ (m : Meaning). run_answer m a.slot a.statement.now) (sym (at_first x f a.place c.if-place-eq0.true))) (ap (λ (m : Meaning). ran g.D.Database.unit m a.slot a.statement.now) (sym (at_first x f a.place c.if-place-eq0.true)) ∙ ap (λ (u : ℕ → ℕ). ran u (ahead x f a.place) a.slot a.statement.now) (sym (at_first g.D.Database.unit g.K.DatabaseBank.units a.place c.if-place-eq0.true))) c.run.ensures

pub returns-else-place-eq0 : goal.returns-else-place-eq0
returns-else-place-eq0 g c =
    let a = c.args in let x = g.D.Replica.meaning a.self.now.first in let f = g.K.ReplicaBank.meanings a.self.now.rest in
    told_rest {T = ℕ} a.place x f c.run-else-place-eq0.result (g.K.ReplicaBank.meanings c.run-else-place-eq0.new.self) (run_refusal (g.K.DatabaseBank.units (a.place - 1)) (f (a.place - 1)) a.slot a.statement.now) (run_refusal (ahead g.D.Database.unit g.K.DatabaseBank.units a.place) (ahead x f a.place) a.slot a.statement.now) (λ v. v ≡ run_answer (f (a.place - 1)) a.slot a.statement.now) (λ v. v ≡ run_answer (ahead x f a.place) a.slot a.statement.now) (ran (g.K.DatabaseBank.units (a.place - 1)) (f (a.place - 1)) a.slot a.statement.now) (ran (ahead g.D.Database.unit g.K.DatabaseBank.units a.place) (ahead x f a.place) a.slot a.statement.now) c.if-place-eq0.false (ap (λ (m : Meaning). run_refusal (g.K.DatabaseBank.units (a.place - 1)) m a.slot a.statement.now) (sym (at_rest x f a.place c.if-place-eq0.false)) ∙ ap (λ (u : ℕ → ℕ). run_refusal u (ahead x f a.place) a.slot a.statement.now) (sym (at_rest g.D.Database.unit g.K.DatabaseBank.units a.place c.if-place-eq0.false))) (λ v h. h ∙ ap (λ (m : Meaning). run_answer m a.slot a.statement.now) (sym (at_rest x f a.place c.if-place-eq0.false))) (ap (λ (m : Meaning). ran (g.K.DatabaseBank.units (a.place - 1)) m a.slot a.statement.now) (sym (at_rest x f a.place c.if-place-eq0.false)) ∙ ap (λ (u : ℕ → ℕ). ran u (ahead x f a.place) a.slot a.statement.now) (sym (at_rest g.D.Database.unit g.K.DatabaseBank.units a.place c.if-place-eq0.false))) c.run-else-place-eq0.ensures
