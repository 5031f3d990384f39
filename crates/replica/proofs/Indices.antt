-- Lists read as functions of the index.
use Rattle.std.proofs.Common.{◌≡◌, ℕ, zero, suc, ◌+◌, ◌<◌, ◌≤◌, Bool, true, false, ◌||◌, List, length, get_or, set, replicate, Option, sym, refl, ap, ◌∙◌, ⊎_elim, add-one, add-zero, zero-add, arith}
use mathlib.Core.Path.{fun_ext}
use lib.ListN.{length-replicate}
use Rattle.std.proofs.lemmas.List.{get_or-set_same, get_or-set_other, get_or-replicate, get_or_past}
use Rattle.std.proofs.lemmas.Bool.{cases_eq, cases_lt, or_from, eq-eqb, ne_eqb, true≢false}
use Rattle.std.proofs.lemmas.Iterator.{YieldsList-from_range}
use Rattle.std.proofs.lemmas.Iterator.Search.{any_from_yields_List}
use Rattle.std.proofs.iter.Yields.{nat_range_steps}
use Rattle.std.specs.declared.ops.Range.{Range}
use Rattle.std.specs.Fn.{Called}
use Rattle.std.specs.Iterator.{YieldsThen}
use Rattle.std.specs.List.{list_any, range_with_len, FoldsTo}
use Rattle.std.specs.Option.{MatchOption}
use denote.Param.Members.{Mut}
use Rattle.replica.specs.Meanings.{put, any_below}

-- one place of a list that is written
pub set_at : {X : Type 0} (xs : List X) (i : ℕ) (v d : X) → i < length xs → (k : ℕ) → get_or (set xs i v) k d ≡ put (λ j. get_or xs j d) i v k
set_at xs i v d h k =
    ⊎_elim
    (λ (e : k ≡ i). rw (e, eq-eqb i i refl) (get_or-set_same xs i v d h))
    (λ (n : k ≡ i → ⊥). rw (ne_eqb k i n) (get_or-set_other xs i k v d n))
    (cases_eq k i)

pub set_put : {X : Type 0} (xs : List X) (i : ℕ) (v d : X) → i < length xs → (λ k. get_or (set xs i v) k d) ≡ put (λ k. get_or xs k d) i v
set_put xs i v d h = fun_ext (set_at xs i v d h)

pub all_same : {X : Type 0} (n : ℕ) (d : X) (k : ℕ) → get_or (replicate n d) k d ≡ d
all_same n d k = ⊎_elim (λ h. get_or-replicate n k d d h) (λ h. get_or_past (replicate n d) k d (rw (length-replicate n d) h)) (cases_lt k n)

pub any_more : (n : ℕ) (p : ℕ → Bool) → any_below (n + 1) p ≡ (p n || any_below n p)
any_more n p = rw add-one refl

pub any_none : (n : ℕ) (p : ℕ → Bool) → any_below n p ≡ false → (k : ℕ) → k < n → p k ≡ false
any_none zero p none k h = absurd (omega arith)
any_none (suc n) p none k h = ⊎_elim (λ (e : k ≡ n). rw e (first (p n) (any_below n p) none)) (λ ne. any_none n p (second (p n) (any_below n p) none) k (omega arith)) (cases_eq k n)
  where
    first : (a b : Bool) → (a || b) ≡ false → a ≡ false
    first true b e = e
    first false b e = refl

    second : (a b : Bool) → (a || b) ≡ false → b ≡ false
    second true b e = absurd (true≢false e)
    second false b e = e

pub none_more : (n : ℕ) (p : ℕ → Bool) → any_below n p ≡ false → p n ≡ false → any_below (n + 1) p ≡ false
none_more n p none here = any_more n p ∙ or_from (p n) (any_below n p) here none

pub none_all : (m n : ℕ) (p : ℕ → Bool) → any_below n p ≡ false → m ≤ n → n ≤ m → any_below m p ≡ false
none_all m n p none h k = let e : m ≡ n = omega arith in ap (λ i. any_below i p) e ∙ none

-- the numbers below n, tested from 0 on
any_listed : (n : ℕ) (p : ℕ → Bool) → list_any p (range_with_len 0 n) ≡ any_below n p
any_listed n p = sym (or_false (list_any p (range_with_len 0 n))) ∙ from n 0 ∙ ap (λ k. any_below k p) (zero-add n)
  where
    or_false : (a : Bool) → (a || false) ≡ a
    or_false true = refl
    or_false false = refl

    swap_or : (a b d : Bool) → ((a || b) || d) ≡ (b || (a || d))
    swap_or true true d = refl
    swap_or true false d = refl
    swap_or false b d = refl

    from : (m i : ℕ) → (list_any p (range_with_len i m) || any_below i p) ≡ any_below (i + m) p
    from zero i = ap (λ k. any_below k p) (sym (add-zero i))
    from (suc m) i =
        let e : i + 1 + m ≡ i + suc m = omega arith in
        swap_or (p i) (list_any p (range_with_len (i + 1) m)) (any_below i p)
        ∙ ap (λ b. list_any p (range_with_len (i + 1) m) || b) (sym (any_more i p)) ∙ from m (i + 1) ∙ ap (λ k. any_below k p) e

-- what `any` over a range from 0 answers, where a call leaves the closure as it is
pub any_in_range : {F : Type 0} {g : Mut F (ℕ × Unit {0}) Bool} (p : ℕ → Bool) (n : ℕ) (u : Range ℕ) (f : F) (r : Bool)
    → (xs : List ℕ) × (o : Option ℕ) × (j : F) × YieldsThen nat_range_steps (record { start = 0; end = n }) xs o u × FoldsTo (λ q x k. Called g q (x, tt) false k) f xs j
    × MatchOption o (r ≡ false) (λ x. (r ≡ true) × ((h : F) × Called g j (x, tt) true h))
    → ((x : ℕ) (b : Bool) (q : F) → Called g f (x, tt) b q → (q ≡ f) × (b ≡ p x)) → r ≡ any_below n p
any_in_range p n u f r ran call = any_from_yields_List p u f r ran (YieldsList-from_range 0 n n refl (omega arith)) call ∙ any_listed n p
