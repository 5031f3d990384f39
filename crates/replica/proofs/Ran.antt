-- A run, put together from what its parts gave.
use Rattle.std.proofs.Common.{◌≡◌, ℕ, true, false, sym, ap, ◌∙◌}
use Rattle.std.proofs.lemmas.Bool.{cond-true, cond-false}
use Rattle.statement.specs.declared.checked.Statement.{Statement}
use Rattle.statement.specs.Operations.{writes_cell, changed, answered}
use Rattle.replica.specs.Meanings.{Meaning, current}
use Rattle.replica.specs.Calls.{written_into, looked_at, ran, run_answer}

module _ (unit : ℕ → ℕ) (m : Meaning) (s : ℕ) (st : Statement) (c : ℕ) (same : c ≡ st.cell) where
  pub ran_answer : (a : ℕ) → a ≡ answered st.operation (current m s c) → a ≡ run_answer m s st
  unfolding run_answer
  ran_answer a h = h ∙ ap (λ k. answered st.operation (current m s k)) same

  pub ran_write : (after : Meaning) (v : ℕ) → writes_cell st.operation ≡ true → v ≡ changed st.operation (current m s c) → after ≡ written_into unit m s c v → after ≡ ran unit m s st
  unfolding ran
  ran_write after v w e h =
      h ∙ ap (written_into unit m s c) e ∙ ap (λ k. written_into unit m s k (changed st.operation (current m s k))) same
      ∙ sym (cond-true (writes_cell st.operation) (written_into unit m s st.cell (changed st.operation (current m s st.cell))) (looked_at unit m s st.cell) w)

  pub ran_look : (after : Meaning) → writes_cell st.operation ≡ false → after ≡ looked_at unit m s c → after ≡ ran unit m s st
  unfolding ran
  ran_look after w h =
      h ∙ ap (looked_at unit m s) same
      ∙ sym (cond-false (writes_cell st.operation) (written_into unit m s st.cell (changed st.operation (current m s st.cell))) (looked_at unit m s st.cell) w)
