-- What the state means.
use Rattle.std.specs.Prelude.{ℕ, List, None, Option, slice_index, slice_index_or}
use Rattle.replica.specs.Meanings.{Meaning}
use Rattle.deferred.specs.declared.transaction.Transaction.{Transaction}
use Rattle.deferred.specs.declared.state.Deferred.{Deferred}
use Rattle.deferred.specs.Shown.{shown_of}

-- Cells and slots by their numbers, and the mark.
abbrev pub means : List ℕ → List (Option Transaction) → ℕ → Meaning
means cells slots mark = record { cells = λ c. slice_index cells c; mark = mark; slots = λ s. shown_of (slice_index_or slots s None) }

abbrev pub meaning_of : Deferred → Meaning
meaning_of d = means d.cells d.slots d.mark
