-- When each call is refused, and with which fault.
use Rattle.std.specs.Prelude.{ℕ, ◌-◌, ◌^◌, Bool, cond, Some, None, Option, ◌==◌, nat_lt}
use Rattle.statement.specs.declared.checked.Statement.{Statement}
use Rattle.statement.specs.Operations.{writes_cell}
use Rattle.replica.specs.declared.faults.Fault.{Fault}
use Rattle.replica.specs.declared.faults.Fault.TheVariants.{NoCell, NoSlot, SlotOpen, SlotClosed, Busy, NotQuiet, LastPosition}
use Rattle.replica.specs.Meanings.{Meaning, is_open, quiet, busy}

-- The last position of 64 bits: the mark cannot be one past it.
abbrev pub last : ℕ → Bool
last p = p == 2 ^ 64 - 1

abbrev pub cell_refusal : ℕ → Option Fault
cell_refusal c = cond (nat_lt c 64) None (Some NoCell)

unfoldable pub intake_refusal : Meaning → ℕ → Option Fault
intake_refusal m p = cond (quiet m) (cond (last p) (Some LastPosition) None) (Some NotQuiet)

unfoldable pub open_refusal : Meaning → ℕ → Option Fault
open_refusal m s = cond (nat_lt s 8) (cond (is_open m s) (Some SlotOpen) None) (Some NoSlot)

unfoldable pub run_refusal : (ℕ → ℕ) → Meaning → ℕ → Statement → Option Fault
run_refusal unit m s st = cond (is_open m s) (cond (busy m s (unit st.cell) (writes_cell st.operation)) (Some (Busy st.cell)) None) (Some SlotClosed)

unfoldable pub seal_refusal : Meaning → ℕ → ℕ → Option Fault
seal_refusal m s p = cond (is_open m s) (cond (last p) (Some LastPosition) None) (Some SlotClosed)

unfoldable pub undo_refusal : Meaning → ℕ → Option Fault
undo_refusal m s = cond (is_open m s) None (Some SlotClosed)
