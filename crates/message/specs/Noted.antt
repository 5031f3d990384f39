-- What notes hold: the statements and their results, in the order of the runs.
use Rattle.std.specs.Prelude.{◌≡◌, ℕ, ◌<◌, ◌≤◌, List, [], ◌∷◌, ◌++◌, length, take, Some, None, Option}
use Rattle.statement.specs.declared.checked.Statement.{Statement}
use Rattle.message.specs.declared.notes.Notes.{Notes}

abbrev pub statements_of : Notes → List Statement
statements_of n = take n.count n.statements

abbrev pub results_of : Notes → List ℕ
results_of n = take n.count n.results

-- One more at the end, exactly where there are fewer than six.
abbrev pub Longer : Notes → Statement → ℕ → Option Notes → Type 0
Longer n st x (Some m) = (length (statements_of n) < 6) × (statements_of m ≡ statements_of n ++ st ∷ []) × (results_of m ≡ results_of n ++ x ∷ [])
Longer n st x None = 6 ≤ length (statements_of n)
