-- What closing a slot leaves of one cell.
use Rattle.std.proofs.Common.{◌≡◌, ℕ, Bool, true, false, cond, eqb, ◌≢◌, Some, None, Option, sym, refl, ap, ◌∙◌, ⊎_elim}
use Rattle.std.proofs.lemmas.Bool.{cases_Bool, ne_eqb, eqb-true, cond-false}
use Rattle.replica.specs.Meanings.{or_else}
use Rattle.in_place.specs.declared.former.Former.{Former}
use Rattle.in_place.specs.Parts.{committed, written_by, own_of, released, restored}

-- a seal commits what the slot sees
pub sealed_cell : (s : ℕ) (o : Option Former) (v : ℕ) → committed (released s o) v ≡ or_else (own_of s o v) (committed o v)
sealed_cell s None v = refl
sealed_cell s (Some f) v = by (eqb f.slot s)
  where
    by : (b : Bool) → committed (cond b None (Some f)) v ≡ or_else (cond b (Some v) None) f.value
    by true = refl
    by false = refl

-- an undo keeps the committed value
pub undone_cell : (s : ℕ) (o : Option Former) (v : ℕ) → committed (released s o) (restored s o v) ≡ committed o v
undone_cell s None v = refl
undone_cell s (Some f) v = by (eqb f.slot s)
  where
    by : (b : Bool) → committed (cond b None (Some f)) (cond b f.value v) ≡ f.value
    by true = refl
    by false = refl

-- another slot keeps its lock
pub other_writes : (s t : ℕ) → t ≢ s → (o : Option Former) → written_by t (released s o) ≡ written_by t o
other_writes s t n None = refl
other_writes s t n (Some f) = ⊎_elim
    (λ (e : eqb f.slot s ≡ true). ap (λ b. written_by t (cond b None (Some f))) e ∙ sym (ne_eqb f.slot t (λ d. n (sym d ∙ eqb-true f.slot s e))))
    (λ (e : eqb f.slot s ≡ false). ap (λ b. written_by t (cond b None (Some f))) e)
    (cases_Bool (eqb f.slot s))

-- an undo leaves another slot its own value
pub other_own : (s t : ℕ) → t ≢ s → (o : Option Former) (v : ℕ) → own_of t (released s o) (restored s o v) ≡ own_of t o v
other_own s t n None v = refl
other_own s t n (Some f) v = ⊎_elim
    (λ (e : eqb f.slot s ≡ true). ap (λ b. own_of t (cond b None (Some f)) (cond b f.value v)) e ∙ sym (cond-false (eqb f.slot t) (Some v) None (ne_eqb f.slot t (λ d. n (sym d ∙ eqb-true f.slot s e)))))
    (λ (e : eqb f.slot s ≡ false). ap (λ b. own_of t (cond b None (Some f)) (cond b f.value v)) e)
    (cases_Bool (eqb f.slot s))

-- a seal leaves another slot its own value
pub other_kept : (s t : ℕ) → t ≢ s → (o : Option Former) (v : ℕ) → own_of t (released s o) v ≡ own_of t o v
other_kept s t n None v = refl
other_kept s t n (Some f) v = ⊎_elim
    (λ (e : eqb f.slot s ≡ true). ap (λ b. own_of t (cond b None (Some f)) v) e ∙ sym (cond-false (eqb f.slot t) (Some v) None (ne_eqb f.slot t (λ d. n (sym d ∙ eqb-true f.slot s e)))))
    (λ (e : eqb f.slot s ≡ false). ap (λ b. own_of t (cond b None (Some f)) v) e)
    (cases_Bool (eqb f.slot s))
