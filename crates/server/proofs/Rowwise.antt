-- Tables read as functions of the slot: a write is an update, and a search goes slot by slot.
use Rattle.std.proofs.Common.{◌≡◌, ℕ, zero, suc, ◌+◌, ◌<◌, ◌≤◌, Bool, true, false, cond, List, length, get_or, set, Some, None, Option, sym, refl, ap, ◌∙◌, add-one, ◌==◌, ◌&&◌, arith}
use mathlib.Core.Path.{fun_ext}
use native.Mathlib.Decide.{ℕ_discrete}
use Rattle.std.proofs.lemmas.List.{get_or-set_same, get_or-set_other}
use Rattle.replica.specs.Meanings.{upd, or_else}
use Rattle.replica.proofs.Updates.{upd_same, upd_other}
use Rattle.pronto.specs.Servers.{Work}
use Rattle.pronto.specs.Refusing.{seek, or_below, names}
use Rattle.server.specs.declared.rows.Row.{Row}
use Rattle.server.specs.Shown.{rows_of, seen_row, work_of}

pub rows_set : (xs : List (Option Row)) (s : ℕ) (x : Option Row) → s < length xs → rows_of (set xs s x) ≡ upd (rows_of xs) s (seen_row x)
rows_set xs s x lt =
    fun_ext (λ j. elim (ℕ_discrete j s) [
      | yes e ↦ rw (e, get_or-set_same xs s x None lt, upd_same (rows_of xs) s (seen_row x))
      | no n ↦ ap seen_row (get_or-set_other xs s j x None n) ∙ sym (upd_other (rows_of xs) s (seen_row x) j n)
    ])

-- whether a row is the transaction of this client's job
abbrev pub named : ℕ → ℕ → Option Row → Bool
named c k None = false
named c k (Some r) = r.client == c && r.job == k

or_below_not : (c k p : ℕ) (below : Option (ℕ × Work)) (x : Option Row) → named c k x ≡ false → or_below c k (seen_row x) p below ≡ below
or_below_not c k p below None e = refl
or_below_not c k p below (Some x) e = rw e refl

-- rows that are of other jobs change nothing in what a search finds
pub seek_down : (xs : List (Option Row)) (c k i n : ℕ) → i ≤ n → ((p : ℕ) → i ≤ p → p < n → named c k (get_or xs p None) ≡ false)
    → seek (rows_of xs) c k n ≡ seek (rows_of xs) c k i
unfolding seek
seek_down xs c k i zero l others = let e : 0 ≡ i = omega arith in ap (seek (rows_of xs) c k) e
seek_down xs c k i (suc n) l others = elim (ℕ_discrete i (suc n)) [
  | yes e ↦ ap (seek (rows_of xs) c k) (sym e)
  | no m ↦
      let rest = seek_down xs c k i n (omega (arith, m)) (λ p a b. others p a (omega arith)) in
      or_below_not c k n (seek (rows_of xs) c k n) (get_or xs n None) (others n (omega (arith, m)) (omega arith)) ∙ rest
]

pub seek_there : (xs : List (Option Row)) (c k p : ℕ) (r : Row) → get_or xs p None ≡ Some r → named c k (Some r) ≡ true
    → seek (rows_of xs) c k (p + 1) ≡ Some (p, work_of r)
unfolding seek
seek_there xs c k p r e t = rw (add-one, e, t) refl

-- what a search finds stands in its slot
pub seek_row : (rows : ℕ → Option Work) (c k n p : ℕ) (w : Work) → seek rows c k n ≡ Some (p, w) → rows p ≡ Some w
unfolding seek
seek_row rows c k zero p w e = absurd (cc)
seek_row rows c k (suc n) p w e = by_row (seek rows c k n) (seek_row rows c k n p w) (rows n) refl e
  where
    by_name : (below : Option (ℕ × Work)) → (below ≡ Some (p, w) → rows p ≡ Some w) → (b : Bool) (y : Work) → rows n ≡ Some y → cond b (Some (n, y)) below ≡ Some (p, w) → rows p ≡ Some w
    by_name below rest true y h f =
        let z = ap (λ (o : Option (ℕ × Work)). or_else o (n, y)) f in
        ap rows (sym (ap (λ (q : ℕ × Work). q.0) z)) ∙ h ∙ ap Some (ap (λ (q : ℕ × Work). q.1) z)
    by_name below rest false y h f = rest f

    by_row : (below : Option (ℕ × Work)) → (below ≡ Some (p, w) → rows p ≡ Some w) → (x : Option Work) → rows n ≡ x → or_below c k x n below ≡ Some (p, w) → rows p ≡ Some w
    by_row below rest None h f = rest f
    by_row below rest (Some y) h f = by_name below rest (names c k y) y h f
