-- Statements of one cell and one operation are one, so a statement that is made is the one of its numbers.
use Rattle.std.proofs.Common.{◌≡◌, ℕ, ◌<◌, Bool, true, false, cond, not, ltb, is_some, Some, None, sym, refl, ap, ◌∙◌, subst}
use mathlib.Core.Bool.{Bool-set}
use native.Mathlib.Bridge.{le_prop}
use Rattle.std.proofs.lemmas.Bool.{lt-ltb, true≢false}
use Rattle.statement.specs.declared.operation.Operation.{Operation}
use Rattle.statement.specs.declared.operation.Operation.TheVariants.{Get, Set, Add, Take, Join, Leave, Heads}
use Rattle.statement.specs.declared.checked.Missing.TheVariants.{Cell, Member}
use Rattle.statement.specs.declared.checked.Statement.{Statement}
use Rattle.statement.specs.Operations.{fits_member}
use Rattle.statement.specs.Making.{missing_member, missing, checked, checked_at}

abbrev make : (c : ℕ) (o : Operation) → c < 64 → fits_member o ≡ true → Statement
make c o low fits = record { cell = c; operation = o; cell_fits = low; member_fits = fits }

same_facts : (c : ℕ) (o : Operation) (l l' : c < 64) (f f' : fits_member o ≡ true) → make c o l f ≡ make c o l' f'
same_facts c o l l' f f' = ap (λ x. make c o x f) (le_prop l l') ∙ ap (make c o l') (Bool-set (fits_member o) true f f')

pub same_statement : (a b : Statement) → a.cell ≡ b.cell → a.operation ≡ b.operation → a ≡ b
same_statement a b p q = other_cell b.cell p b.operation q b.cell_fits b.member_fits
  where
    other_operation : (o : Operation) → a.operation ≡ o → (l : a.cell < 64) (f : fits_member o ≡ true) → a ≡ make a.cell o l f
    other_operation o e =
        let P : Operation → Type 0 = λ x. (l : a.cell < 64) (f : fits_member x ≡ true) → a ≡ make a.cell x l f in
        subst P e (λ l f. same_facts a.cell a.operation a.cell_fits l a.member_fits f)

    other_cell : (c : ℕ) → a.cell ≡ c → (o : Operation) → a.operation ≡ o → (l : c < 64) (f : fits_member o ≡ true) → a ≡ make c o l f
    other_cell c e o d =
        let P : ℕ → Type 0 = λ x. (l : x < 64) (f : fits_member o ≡ true) → a ≡ make x o l f in
        subst P e (other_operation o d)

-- the statement of a statement's own numbers is that statement
pub checked_own : (a : Statement) → checked a.cell a.operation ≡ Some a
unfolding checked
checked_own a = by (ltb a.cell 64) (fits_member a.operation) refl refl (lt-ltb a.cell 64 a.cell_fits) a.member_fits
  where
    by : (x y : Bool) (p : ltb a.cell 64 ≡ x) (q : fits_member a.operation ≡ y) → x ≡ true → y ≡ true → checked_at a.cell a.operation x y p q ≡ Some a
    by true true p q e f = ap Some (same_statement _ a refl refl)
    by true false p q e f = absurd (true≢false (sym f))
    by false y p q e f = absurd (true≢false (sym e))

pub checked_is : (a : Statement) (c : ℕ) (o : Operation) → a.cell ≡ c → a.operation ≡ o → checked c o ≡ Some a
checked_is a c o p q = ap (λ x. checked x o) (sym p) ∙ ap (checked a.cell) (sym q) ∙ checked_own a

-- there is a statement of these numbers exactly where none of them is missing
member_missing : (o : Operation) → is_some (missing_member o) ≡ not (fits_member o)
member_missing Get = refl
member_missing (Set v) = refl
member_missing (Add v) = refl
member_missing (Take v) = refl
member_missing (Join m) = by (ltb m 64)
  where
    by : (b : Bool) → is_some (cond b None (Some (Member m))) ≡ not b
    by true = refl
    by false = refl
member_missing (Leave m) = by (ltb m 64)
  where
    by : (b : Bool) → is_some (cond b None (Some (Member m))) ≡ not b
    by true = refl
    by false = refl
member_missing Heads = refl

pub checked_made : (c : ℕ) (o : Operation) → is_some (checked c o) ≡ not (is_some (missing c o))
unfolding checked
checked_made c o = by (ltb c 64) (fits_member o) refl refl
  where
    by : (x y : Bool) (p : ltb c 64 ≡ x) (q : fits_member o ≡ y) → is_some (checked_at c o x y p q) ≡ not (is_some (cond x (missing_member o) (Some (Cell c))))
    by true true p q = sym (ap not (member_missing o ∙ ap not q))
    by true false p q = sym (ap not (member_missing o ∙ ap not q))
    by false y p q = refl
