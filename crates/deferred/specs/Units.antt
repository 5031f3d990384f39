-- What is locked together.
use Rattle.std.specs.Prelude.{ℕ, ◌/◌}

-- The unit of a cell: eight cells in a row share one.
abbrev pub unit_of_eight : ℕ → ℕ
unit_of_eight c = c / 8
