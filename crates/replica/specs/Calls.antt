-- What each call that is not refused leaves, and what a run answers.
use Rattle.std.specs.Prelude.{ℕ, ◌+◌, true, cond, List, Some, None}
use Rattle.statement.specs.declared.checked.Statement.{Statement}
use Rattle.statement.specs.Operations.{writes_cell, changed, answered}
use Rattle.replica.specs.Meanings.{Meaning, put, fresh, slot_of, current, all_stepped}

-- clear: cells and mark 0, every slot closed.
unfoldable pub cleared : Meaning
cleared = record { cells = λ _. 0; mark = 0; slots = λ _. None }

-- intake: the statements ran in order on the committed cells, and the mark is one past the position.
unfoldable pub taken_in : Meaning → List Statement → ℕ → Meaning
taken_in m sts p = record { cells = all_stepped m.cells sts; mark = p + 1; slots = m.slots }

-- open: the slot is open, with no lock and no value.
unfoldable pub opened : Meaning → ℕ → Meaning
opened m s = record { cells = m.cells; mark = m.mark; slots = put m.slots s (Some fresh) }

-- run: the statement answers on what the slot sees.
unfoldable pub run_answer : Meaning → ℕ → Statement → ℕ
run_answer m s st = answered st.operation (current m s st.cell)

-- Slot s with a write lock on the cell's unit, and with v as its own value.
unfoldable pub written_into : (ℕ → ℕ) → Meaning → ℕ → ℕ → ℕ → Meaning
written_into unit m s c v = record {
  cells = m.cells;
  mark = m.mark;
  slots = put m.slots s (Some (record {
    reads = (slot_of m s).reads;
    writes = put (slot_of m s).writes (unit c) true;
    own = put (slot_of m s).own c (Some v);
  }));
}

-- Slot s with a read lock on the cell's unit.
unfoldable pub looked_at : (ℕ → ℕ) → Meaning → ℕ → ℕ → Meaning
looked_at unit m s c = record {
  cells = m.cells;
  mark = m.mark;
  slots = put m.slots s (Some (record {
    reads = put (slot_of m s).reads (unit c) true;
    writes = (slot_of m s).writes;
    own = (slot_of m s).own;
  }));
}

-- run: a statement that counts as writing locks for writing and leaves an own value; another locks for reading.
unfoldable pub ran : (ℕ → ℕ) → Meaning → ℕ → Statement → Meaning
ran unit m s st = cond (writes_cell st.operation) (written_into unit m s st.cell (changed st.operation (current m s st.cell))) (looked_at unit m s st.cell)

-- seal: what the slot sees is committed, the mark is one past the position, and the slot is closed.
unfoldable pub sealed : Meaning → ℕ → ℕ → Meaning
sealed m s p = record { cells = current m s; mark = p + 1; slots = put m.slots s None }

-- undo: the slot is closed.
unfoldable pub undone : Meaning → ℕ → Meaning
undone m s = record { cells = m.cells; mark = m.mark; slots = put m.slots s None }

-- lose: every slot is closed.
unfoldable pub lost : Meaning → Meaning
lost m = record { cells = m.cells; mark = m.mark; slots = λ _. None }
