-- Statements run one after another on cells.
use Rattle.std.proofs.Common.{◌≡◌, ℕ, ◌+◌, ◌<◌, ◌≤◌, List, length, get_or, drop, set, sym, ap, ◌∙◌, arith}
use Rattle.std.proofs.lemmas.List.{drop_more, drop_all}
use Rattle.statement.specs.declared.checked.Statement.{Statement}
use Rattle.statement.specs.Operations.{changed}
use Rattle.replica.specs.Meanings.{all_stepped, stepped, put}
use Rattle.replica.proofs.Indices.{set_put}

pub run_more : (xs : List Statement) (i : ℕ) (a : List ℕ) (st : Statement) (c v : ℕ) → i < length xs → st ≡ get_or xs i st → c ≡ st.cell → length a ≡ 64 → c < 64 → v ≡ changed st.operation (get_or a c 0) → all_stepped (λ k. get_or (set a c v) k 0) (drop (i + 1) xs) ≡ all_stepped (λ k. get_or a k 0) (drop i xs)
run_more xs i a st c v within read same long low is =
    let F : ℕ → ℕ = λ k. get_or a k 0 in
    let inside : c < length a = omega arith in
    let one : put F c v ≡ stepped F st = ap (λ w. put F c w) is ∙ ap (λ n. put F n (changed st.operation (F n))) same in
    let two : put F c v ≡ stepped F (get_or xs i st) = one ∙ ap (stepped F) read in
    ap (λ f. all_stepped f (drop (i + 1) xs)) (set_put a c v 0 inside ∙ two) ∙ sym (ap (all_stepped F) (drop_more xs i st within))

pub run_all : (xs : List Statement) (i : ℕ) (f g : ℕ → ℕ) → length xs ≤ i → all_stepped f (drop i xs) ≡ g → f ≡ g
run_all xs i f g past e = sym (ap (all_stepped f) (drop_all i xs past)) ∙ e
