-- A bank's calls: one database's, at its place.
use Rattle.std.specs.Prelude.{◌≡◌, ℕ, ◌-◌, cond, List, Some, None, Ok, Err, Option, Result, ◌==◌, nat_lt}
use Rattle.statement.specs.declared.checked.Statement.{Statement}
use Rattle.replica.specs.declared.faults.Fault.{Fault}
use Rattle.replica.specs.Meanings.{Meaning, upd}
use Rattle.replica.specs.Calls.{cleared, taken_in, opened, ran, run_answer, sealed, undone, lost}
use Rattle.replica.specs.Refusals.{intake_refusal, open_refusal, run_refusal, seal_refusal, undo_refusal}
use Rattle.pronto.specs.Refusing.{at_place}

-- x at place 0, and the others one place further.
unfoldable pub ahead : {X : Type 0} → X → (ℕ → X) → ℕ → X
ahead x f i = cond (i == 0) x (f (i - 1))

-- Cleared at the first n places, and nowhere else.
abbrev pub cleared_below : ℕ → (ℕ → Meaning) → ℕ → Meaning
cleared_below n ms = λ i. cond (nat_lt i n) cleared (ms i)

-- Refused exactly where there is a refusal, and then nothing changes; otherwise the answer is right, the database at this place is as it
-- should be, and no other is changed.
abbrev pub ToldAt : {T : Type 0} → Result T Fault → Option Fault → (T → Type 0) → ℕ → (ℕ → Meaning) → (ℕ → Meaning) → Meaning → Type 0
ToldAt (Ok v) refusal Right i ms ns done = (refusal ≡ None) × Right v × (ns ≡ upd ms i done)
ToldAt (Err e) refusal Right i ms ns done = (refusal ≡ Some e) × (ns ≡ ms)

abbrev pub BankTakesIn : ℕ → Result (Unit {0}) Fault → ℕ → List Statement → ℕ → (ℕ → Meaning) → (ℕ → Meaning) → Type 0
BankTakesIn size r i sts p ms ns = ToldAt r (at_place size i (intake_refusal (ms i) p)) (λ _. Unit {0}) i ms ns (taken_in (ms i) sts p)

abbrev pub BankOpens : ℕ → Result (Unit {0}) Fault → ℕ → ℕ → (ℕ → Meaning) → (ℕ → Meaning) → Type 0
BankOpens size r i s ms ns = ToldAt r (at_place size i (open_refusal (ms i) s)) (λ _. Unit {0}) i ms ns (opened (ms i) s)

abbrev pub BankRuns : (ℕ → ℕ → ℕ) → Result ℕ Fault → ℕ → ℕ → Statement → (ℕ → Meaning) → (ℕ → Meaning) → Type 0
BankRuns units r i s st ms ns = ToldAt r (run_refusal (units i) (ms i) s st) (λ v. v ≡ run_answer (ms i) s st) i ms ns (ran (units i) (ms i) s st)

abbrev pub BankSeals : Result (Unit {0}) Fault → ℕ → ℕ → ℕ → (ℕ → Meaning) → (ℕ → Meaning) → Type 0
BankSeals r i s p ms ns = ToldAt r (seal_refusal (ms i) s p) (λ _. Unit {0}) i ms ns (sealed (ms i) s p)

abbrev pub BankUndoes : Result (Unit {0}) Fault → ℕ → ℕ → (ℕ → Meaning) → (ℕ → Meaning) → Type 0
BankUndoes r i s ms ns = ToldAt r (undo_refusal (ms i) s) (λ _. Unit {0}) i ms ns (undone (ms i) s)

abbrev pub BankLoses : ℕ → (ℕ → Meaning) → (ℕ → Meaning) → Type 0
BankLoses i ms ns = ns ≡ upd ms i (lost (ms i))
