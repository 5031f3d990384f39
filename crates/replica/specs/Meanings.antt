-- What a replica of any make means: 64 cells, a mark, and 8 slots.
use Rattle.std.specs.Prelude.{ℕ, zero, suc, Bool, false, cond, not, ◌&&◌, ◌||◌, List, [], ◌∷◌, is_some, Some, None, Option, ◌==◌}
use Rattle.statement.specs.declared.checked.Statement.{Statement}
use Rattle.statement.specs.Operations.{changed}

-- An open slot: the units that it locked for reading and for writing, and its own unsealed values by cell.
pub record Slot : Type 0 where
  pub reads : ℕ → Bool
  pub writes : ℕ → Bool
  pub own : ℕ → Option ℕ

-- The committed cells, the mark, and the slots: a closed slot is None.
pub record Meaning : Type 0 where
  pub cells : ℕ → ℕ
  pub mark : ℕ
  pub slots : ℕ → Option Slot

-- f with v at k.
abbrev pub put : {X : Type 0} → (ℕ → X) → ℕ → X → ℕ → X
put f k v = λ i. cond (i == k) v (f i)

-- The same, which a proof opens only where it says so.
unfoldable pub upd : {X : Type 0} → (ℕ → X) → ℕ → X → ℕ → X
upd f k v i = put f k v i

-- p holds of some number below n.
abbrev pub any_below : ℕ → (ℕ → Bool) → Bool
any_below zero p = false
any_below (suc n) p = p n || any_below n p

abbrev pub or_else : {X : Type 0} → Option X → X → X
or_else None d = d
or_else (Some x) d = x

-- A slot that was just opened.
abbrev pub fresh : Slot
fresh = record { reads = λ _. false; writes = λ _. false; own = λ _. None }

abbrev pub is_open : Meaning → ℕ → Bool
is_open m s = is_some (m.slots s)

-- No slot is open.
abbrev pub quiet : Meaning → Bool
quiet m = not (any_below 8 (is_open m))

abbrev pub slot_of : Meaning → ℕ → Slot
slot_of m s = or_else (m.slots s) fresh

-- What slot s sees in cell c: its own value, or the committed one where it has none.
abbrev pub current : Meaning → ℕ → ℕ → ℕ
current m s c = or_else ((slot_of m s).own c) (m.cells c)

-- The cells after one statement, and after a list of them in order.
abbrev pub stepped : (ℕ → ℕ) → Statement → ℕ → ℕ
stepped cells st = put cells st.cell (changed st.operation (cells st.cell))

abbrev pub all_stepped : (ℕ → ℕ) → List Statement → ℕ → ℕ
all_stepped cells [] = cells
all_stepped cells (st ∷ sts) = all_stepped (stepped cells st) sts

-- Slot t is open, is not s, and has a lock on unit u that excludes one of slot s: for writing, or for reading where s writes.
abbrev pub excludes : Meaning → ℕ → ℕ → Bool → ℕ → Bool
excludes m s u w t = not (t == s) && is_open m t && ((slot_of m t).writes u || (w && (slot_of m t).reads u))

-- Some slot excludes a lock of slot s on unit u, for writing where w.
abbrev pub busy : Meaning → ℕ → ℕ → Bool → Bool
busy m s u w = any_below 8 (excludes m s u w)
