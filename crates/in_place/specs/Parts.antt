-- The parts of the state, and what they mean.
use Rattle.std.specs.Prelude.{ℕ, Bool, true, false, cond, List, is_some, Some, None, Option, ◌==◌, slice_index, slice_index_or}
use Rattle.std.specs.Option.{option_map}
use Rattle.replica.specs.Meanings.{Meaning, Slot}
use Rattle.in_place.specs.declared.former.Former.{Former}
use Rattle.in_place.specs.declared.read_set.ReadSet.{ReadSet}
use Rattle.in_place.specs.Reads.{holds}

-- Whoever wrote the cell is open.
abbrev pub held_by_open : List (Option ReadSet) → Option Former → Bool
held_by_open slots None = true
held_by_open slots (Some f) = is_some (slice_index_or slots f.slot None)

-- The committed value of a cell that holds v.
abbrev pub committed : Option Former → ℕ → ℕ
committed None v = v
committed (Some f) v = f.value

-- Slot s wrote the cell.
abbrev pub written_by : ℕ → Option Former → Bool
written_by s None = false
written_by s (Some f) = f.slot == s

-- The own value of slot s in a cell that holds v.
abbrev pub own_of : ℕ → Option Former → ℕ → Option ℕ
own_of s None v = None
own_of s (Some f) v = cond (f.slot == s) (Some v) None

-- Slot s, which holds these read locks.
abbrev pub shown_slot : List ℕ → List (Option Former) → ℕ → ReadSet → Slot
shown_slot cells formers s reads = record {
  reads = holds reads;
  writes = λ u. written_by s (slice_index_or formers u None);
  own = λ c. own_of s (slice_index_or formers c None) (slice_index cells c);
}

-- What the parts mean together.
abbrev pub means : List ℕ → List (Option Former) → List (Option ReadSet) → ℕ → Meaning
means cells formers slots mark = record {
  cells = λ c. committed (slice_index_or formers c None) (slice_index cells c);
  mark = mark;
  slots = λ s. option_map (shown_slot cells formers s) (slice_index_or slots s None);
}

-- What is left of a cell's former value once slot s is closed.
abbrev pub released : ℕ → Option Former → Option Former
released s None = None
released s (Some f) = cond (f.slot == s) None (Some f)

-- What a cell that holds v holds once slot s is undone.
abbrev pub restored : ℕ → Option Former → ℕ → ℕ
restored s None v = v
restored s (Some f) v = cond (f.slot == s) f.value v
