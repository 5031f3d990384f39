-- Statements that do not touch each other's cells: what they answer and leave from cells that agree where they look. From put alone.
use Rattle.std.proofs.Common.{◌≡◌, ℕ, Bool, true, false, ◌≢◌, ◌⊎◌, List, [], ◌∷◌, ◌++◌, sym, refl, ap, ◌∙◌, inl, inr}
use native.Mathlib.Decide.{ℕ_discrete}
use Rattle.std.specs.List.{AllByRecursion as All}
use Rattle.std.proofs.ByRecursion.{All-weaker}
use Rattle.statement.specs.declared.operation.Operation.{Operation}
use Rattle.statement.specs.declared.operation.Operation.TheVariants.{Get, Set, Add, Take, Join, Leave, Heads}
use Rattle.statement.specs.declared.checked.Statement.{Statement}
use Rattle.statement.specs.Operations.{writes_cell, changed, answered}
use Rattle.replica.specs.Meanings.{put, stepped, all_stepped}
use Rattle.replica.proofs.Updates.{put_same, put_other}
use Rattle.journal.specs.Runs.{answers}
use Rattle.pronto.proofs.Everywhere.{all_any}

abbrev pub Cells : Type 0
Cells = ℕ → ℕ

abbrev pub writes : Statement → Bool
writes a = writes_cell a.operation

-- two fields of cells agree where statements name a cell
abbrev pub Agree : List Statement → Cells → Cells → Type 0
Agree t S S' = All (λ a. S a.cell ≡ S' a.cell) t

agree_on : (x c : ℕ) (S S' : Cells) (v v' : ℕ) → v ≡ v' → S x ≡ S' x → put S c v x ≡ put S' c v' x
agree_on x c S S' v v' e h =
    elim (ℕ_discrete x c) [
      | yes p ↦ ap (put S c v) p ∙ put_same S c v ∙ e ∙ sym (put_same S' c v') ∙ sym (ap (put S' c v') p)
      | no np ↦ put_other S c v x np ∙ h ∙ sym (put_other S' c v' x np)
    ]

agree_next : (a : Statement) (t : List Statement) (S S' : Cells) → S a.cell ≡ S' a.cell → Agree t S S' → Agree t (stepped S a) (stepped S' a)
agree_next a t S S' e h =
    All-weaker (λ b. S b.cell ≡ S' b.cell) (λ b. stepped S a b.cell ≡ stepped S' a b.cell)
    (λ b g. agree_on b.cell a.cell S S' (changed a.operation (S a.cell)) (changed a.operation (S' a.cell)) (ap (changed a.operation) e) g) t h

pub answers_agree : (t : List Statement) (S S' : Cells) → Agree t S S' → answers t S ≡ answers t S'
answers_agree [] S S' h = refl
answers_agree (a ∷ t) S S' h =
    let e = answers_agree t (stepped S a) (stepped S' a) (agree_next a t S S' h.0 h.1) in
    ap (λ x. answered a.operation x ∷ answers t (stepped S a)) h.0 ∙ ap {B = List ℕ} (λ l. answered a.operation (S' a.cell) ∷ l) e

pub runs_agree : (t : List Statement) (S S' : Cells) (c : ℕ) → Agree t S S' → S c ≡ S' c → all_stepped S t c ≡ all_stepped S' t c
runs_agree [] S S' c h e = e
runs_agree (a ∷ t) S S' c h e =
    runs_agree t (stepped S a) (stepped S' a) c (agree_next a t S S' h.0 h.1)
    (agree_on c a.cell S S' (changed a.operation (S a.cell)) (changed a.operation (S' a.cell)) (ap (changed a.operation) h.0) e)

-- from cells that are equal one by one
pub runs_same : (t : List Statement) (S S' : Cells) → ((c : ℕ) → S c ≡ S' c) → (c : ℕ) → all_stepped S t c ≡ all_stepped S' t c
runs_same t S S' e c = runs_agree t S S' c (all_any (λ a. S a.cell ≡ S' a.cell) (λ a. e a.cell) t) (e c)

-- no statement writes the cell
abbrev pub Unwritten : ℕ → List Statement → Type 0
Unwritten c t = All (λ a. writes a ≡ true → a.cell ≢ c) t

reads_leave : (o : Operation) (x : ℕ) → writes_cell o ≡ false → changed o x ≡ x
reads_leave Get x h = refl
reads_leave (Set v) x h = cc
reads_leave (Add v) x h = cc
reads_leave (Take v) x h = cc
reads_leave (Join m) x h = cc
reads_leave (Leave m) x h = cc
reads_leave Heads x h = refl

pub one_outside : (a : Statement) (S : Cells) (c : ℕ) → (writes a ≡ true → a.cell ≢ c) → stepped S a c ≡ S c
one_outside a S c h = go (writes a) refl
  where
    go : (b : Bool) → writes a ≡ b → stepped S a c ≡ S c
    go true e = put_other S a.cell (changed a.operation (S a.cell)) c (λ q. h e (sym q))
    go false e =
        elim (ℕ_discrete c a.cell) [
          | yes p ↦ ap (stepped S a) p ∙ put_same S a.cell (changed a.operation (S a.cell)) ∙ reads_leave a.operation (S a.cell) e ∙ ap S (sym p)
          | no np ↦ put_other S a.cell (changed a.operation (S a.cell)) c np
        ]

pub runs_outside : (t : List Statement) (S : Cells) (c : ℕ) → Unwritten c t → all_stepped S t c ≡ S c
runs_outside [] S c h = refl
runs_outside (a ∷ t) S c h = runs_outside t (stepped S a) c h.1 ∙ one_outside a S c h.0

-- statements that never touch a cell which the other writes
abbrev pub Apart : Statement → Statement → Type 0
Apart a b = (writes a ≡ true) ⊎ (writes b ≡ true) → a.cell ≢ b.cell

abbrev pub Clear : List Statement → List Statement → Type 0
Clear t u = All (λ a. All (λ b. Apart a b) u) t

pub clear_agree : (t u : List Statement) (S : Cells) → Clear t u → Agree t S (all_stepped S u)
clear_agree t u S h =
    All-weaker (λ a. All (λ b. Apart a b) u) (λ a. S a.cell ≡ all_stepped S u a.cell)
    (λ a g. sym (runs_outside u S a.cell
    (All-weaker (λ b. Apart a b) (λ b. writes b ≡ true → b.cell ≢ a.cell) (λ b k w e. k (inr w) (sym e)) u g))) t h

-- a transaction's results are not changed by another that is clear of it
pub answers_clear : (t u : List Statement) (S : Cells) → Clear t u → answers t (all_stepped S u) ≡ answers t S
answers_clear t u S h = sym (answers_agree t S (all_stepped S u) (clear_agree t u S h))

-- the same, with the two lists changed about
clear_one : (a : Statement) (t u : List Statement) → All (λ b. Apart a b) u → All (λ b. All (λ c. Apart b c) t) u → All (λ b. All (λ c. Apart b c) (a ∷ t)) u
clear_one a t [] h k = tt
clear_one a t (b ∷ u) h k = ((λ w e. h.0 (elim w [ inl p ↦ inr p | inr p ↦ inl p ]) (sym e), k.0), clear_one a t u h.1 k.1)

pub clear_sym : (t u : List Statement) → Clear t u → Clear u t
clear_sym [] u h = all_any (λ b. Unit {0}) (λ b. tt) u
clear_sym (a ∷ t) u h = clear_one a t u h.0 (clear_sym t u h.1)

-- one statement more at the end
pub runs_push : (t : List Statement) (a : Statement) (S : Cells) → all_stepped S (t ++ a ∷ []) ≡ stepped (all_stepped S t) a
runs_push [] a S = refl
runs_push (b ∷ t) a S = runs_push t a (stepped S b)

pub answers_push : (t : List Statement) (a : Statement) (S : Cells) → answers (t ++ a ∷ []) S ≡ answers t S ++ answered a.operation (all_stepped S t a.cell) ∷ []
answers_push [] a S = refl
answers_push (b ∷ t) a S = ap {B = List ℕ} (λ l. answered b.operation (S b.cell) ∷ l) (answers_push t a (stepped S b))
