-- Read locks as a function of the cell.
use Rattle.std.specs.Prelude.{ℕ, Bool, false, slice_index_or}
use Rattle.in_place.specs.declared.read_set.ReadSet.{ReadSet}

abbrev pub holds : ReadSet → ℕ → Bool
holds reads u = slice_index_or reads.cells u false
