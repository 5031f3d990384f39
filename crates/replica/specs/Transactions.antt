-- A whole transaction: open, several runs, seal; where one is refused, nothing changes.
use Rattle.std.specs.Prelude.{◌≡◌, ℕ, List, [], ◌∷◌, Some, None, Ok, Err, Option, Result}
use Rattle.statement.specs.declared.checked.Statement.{Statement}
use Rattle.replica.specs.declared.faults.Fault.{Fault}
use Rattle.replica.specs.Meanings.{Meaning, is_open}
use Rattle.replica.specs.Calls.{opened, ran, sealed, undone}
use Rattle.replica.specs.Refusals.{open_refusal, run_refusal, seal_refusal}
use Rattle.replica.specs.Outcomes.{Told}

-- The first refusal of two calls in turn.
abbrev pub first_refusal : Option Fault → Option Fault → Option Fault
first_refusal (Some e) later = Some e
first_refusal None later = later

-- The statements run in slot s, one after another.
abbrev pub ran_all : (ℕ → ℕ) → Meaning → ℕ → List Statement → Meaning
ran_all unit m s [] = m
ran_all unit m s (st ∷ sts) = ran_all unit (ran unit m s st) s sts

-- The first refusal of these runs and of the seal after them.
abbrev pub finish_refusal : (ℕ → ℕ) → Meaning → ℕ → List Statement → ℕ → Option Fault
finish_refusal unit m s [] p = seal_refusal m s p
finish_refusal unit m s (st ∷ sts) p = first_refusal (run_refusal unit m s st) (finish_refusal unit (ran unit m s st) s sts p)

-- The runs and the seal; where one is refused, no more than the slot has changed.
abbrev pub Finishes : (ℕ → ℕ) → Result (Unit {0}) Fault → ℕ → List Statement → ℕ → Meaning → Meaning → Type 0
Finishes unit (Ok u) s sts p m n = (finish_refusal unit m s sts p ≡ None) × (n ≡ sealed (ran_all unit m s sts) s p)
Finishes unit (Err e) s sts p m n = (finish_refusal unit m s sts p ≡ Some e) × (undone n s ≡ undone m s) × (is_open n s ≡ is_open m s)

abbrev pub Transacts : (ℕ → ℕ) → Result (Unit {0}) Fault → ℕ → List Statement → ℕ → Meaning → Meaning → Type 0
Transacts unit r s sts p m n =
    Told r (first_refusal (open_refusal m s) (finish_refusal unit (opened m s) s sts p)) (λ _. Unit {0}) m n (sealed (ran_all unit (opened m s) s sts) s p)
