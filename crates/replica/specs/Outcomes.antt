-- How a call's result goes with its refusal and with what it changes.
use Rattle.std.specs.Prelude.{◌≡◌, ℕ, ◌+◌, ◌<◌, Bool, false, cond, List, is_some, Some, None, Ok, Err, Option, Result, nat_lt, slice_index, slice_index_or, slice_set}
use Rattle.statement.specs.declared.checked.Statement.{Statement}
use Rattle.replica.specs.declared.faults.Fault.{Fault}
use Rattle.replica.specs.declared.faults.Fault.TheVariants.{NoSlot, SlotOpen, NotQuiet, LastPosition}
use Rattle.replica.specs.Meanings.{Meaning, all_stepped}
use Rattle.replica.specs.Calls.{taken_in, opened, ran, run_answer, sealed, undone}
use Rattle.replica.specs.Refusals.{last, intake_refusal, open_refusal, run_refusal, seal_refusal, undo_refusal}

-- A call is refused exactly where there is a refusal, and then changes nothing; otherwise its answer is right, and `done` is what it leaves.
abbrev pub Told : {T : Type 0} → Result T Fault → Option Fault → (T → Type 0) → Meaning → Meaning → Meaning → Type 0
Told (Ok v) refusal Right before after done = (refusal ≡ None) × Right v × (after ≡ done)
Told (Err e) refusal Right before after done = (refusal ≡ Some e) × (after ≡ before)

-- A question's answer, or its refusal.
abbrev pub Shown : Result ℕ Fault → Option Fault → ℕ → Type 0
Shown (Ok v) refusal n = (refusal ≡ None) × (v ≡ n)
Shown (Err e) refusal n = refusal ≡ Some e

-- Each call: its result, its arguments, and the meaning before and after.
abbrev pub TakesIn : Result (Unit {0}) Fault → List Statement → ℕ → Meaning → Meaning → Type 0
TakesIn r sts p m n = Told r (intake_refusal m p) (λ _. Unit {0}) m n (taken_in m sts p)

abbrev pub Opens : Result (Unit {0}) Fault → ℕ → Meaning → Meaning → Type 0
Opens r s m n = Told r (open_refusal m s) (λ _. Unit {0}) m n (opened m s)

abbrev pub Runs : (ℕ → ℕ) → Result ℕ Fault → ℕ → Statement → Meaning → Meaning → Type 0
Runs unit r s st m n = Told r (run_refusal unit m s st) (λ v. v ≡ run_answer m s st) m n (ran unit m s st)

abbrev pub Seals : Result (Unit {0}) Fault → ℕ → ℕ → Meaning → Meaning → Type 0
Seals r s p m n = Told r (seal_refusal m s p) (λ _. Unit {0}) m n (sealed m s p)

abbrev pub Undoes : Result (Unit {0}) Fault → ℕ → Meaning → Meaning → Type 0
Undoes r s m n = Told r (undo_refusal m s) (λ _. Unit {0}) m n (undone m s)

-- Opening a slot of an array: refused as `open` is, and otherwise the slot holds x, and the others what they held.
abbrev pub OpensWith : {T : Type 0} → T → Result (Unit {0}) Fault → ℕ → List (Option T) → List (Option T) → Type 0
OpensWith x (Ok v) s before after = (s < 8) × (is_some (slice_index_or before s None) ≡ false) × (after ≡ slice_set before s (Some x))
OpensWith x (Err e) s before after = (cond (nat_lt s 8) (cond (is_some (slice_index_or before s None)) (Some SlotOpen) None) (Some NoSlot) ≡ Some e) × (after ≡ before)

-- Taking in on cells and a mark, while some slot is open or none is: refused as `intake` is, and otherwise the statements ran and the mark is one past the position.
abbrev pub TakesInWith : Result (Unit {0}) Fault → Bool → List Statement → ℕ → List ℕ → List ℕ → ℕ → ℕ → Type 0
TakesInWith (Ok v) busy sts p cells after mark next = (busy ≡ false) × (last p ≡ false) × ((λ c. slice_index after c) ≡ all_stepped (λ c. slice_index cells c) sts) × (next ≡ p + 1)
TakesInWith (Err e) busy sts p cells after mark next = (cond busy (Some NotQuiet) (cond (last p) (Some LastPosition) None) ≡ Some e) × (after ≡ cells) × (next ≡ mark)
