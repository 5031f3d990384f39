-- Statements run one after another on cells: what they leave (`all_stepped`) and what they answer.
use Rattle.std.specs.Prelude.{ℕ, List, [], ◌∷◌}
use Rattle.statement.specs.declared.checked.Statement.{Statement}
use Rattle.statement.specs.Operations.{answered}
use Rattle.replica.specs.Meanings.{stepped}

-- The results of the statements, run in order from these cells.
abbrev pub answers : List Statement → (ℕ → ℕ) → List ℕ
answers [] cells = []
answers (st ∷ sts) cells = answered st.operation (cells st.cell) ∷ answers sts (stepped cells st)
