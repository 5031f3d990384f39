-- What the database means.
use Rattle.std.specs.Prelude.{ℕ}
use Rattle.replica.specs.Meanings.{Meaning}
use Rattle.in_place.specs.declared.state.InPlace.{InPlace}
use Rattle.in_place.specs.Parts.{means}

-- The meaning of the parts.
abbrev pub meaning_of : InPlace → Meaning
meaning_of d = means d.cells d.formers d.slots d.mark

-- The unit of a cell is its number.
abbrev pub same_unit : ℕ → ℕ
same_unit c = c
