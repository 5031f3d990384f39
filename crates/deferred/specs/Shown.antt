-- What an open slot shows.
use Rattle.std.specs.Prelude.{ℕ, true, false, cond, Some, None, Option, slice_index, slice_index_or}
use Rattle.replica.specs.Meanings.{Slot, put}
use Rattle.deferred.specs.declared.transaction.Transaction.{Transaction}

-- The locks and the values, as functions of the unit and of the cell.
abbrev pub shown : Transaction → Slot
shown t = record { reads = λ u. slice_index_or t.reads u false; writes = λ u. slice_index_or t.writes u false; own = λ c. cond (slice_index_or t.written c false) (Some (slice_index t.values c)) None }

-- A closed slot shows nothing.
abbrev pub shown_of : Option Transaction → Option Slot
shown_of None = None
shown_of (Some t) = Some (shown t)

-- The slot with a write lock on unit u, and with v as its own value of cell c.
abbrev pub with_write : Slot → ℕ → ℕ → ℕ → Slot
with_write k u c v = record { reads = k.reads; writes = put k.writes u true; own = put k.own c (Some v) }

-- The slot with a read lock on unit u.
abbrev pub with_read : Slot → ℕ → Slot
with_read k u = record { reads = put k.reads u true; writes = k.writes; own = k.own }
