-- A function with one value replaced: at that place, elsewhere, and at every place.
use Rattle.std.proofs.Common.{◌≡◌, ℕ, eqb, ◌≢◌, sym, refl, ap, ◌∙◌}
use mathlib.Core.Path.{fun_ext}
use native.Mathlib.Decide.{ℕ_discrete}
use Rattle.std.proofs.lemmas.Bool.{eq-eqb, ne_eqb, cond-true, cond-false}
use Rattle.replica.specs.Meanings.{put, upd}

pub put_same : {X : Type 0} (f : ℕ → X) (i : ℕ) (v : X) → put f i v i ≡ v
put_same f i v = cond-true (eqb i i) v (f i) (eq-eqb i i refl)

pub put_other : {X : Type 0} (f : ℕ → X) (i : ℕ) (v : X) (j : ℕ) → j ≢ i → put f i v j ≡ f j
put_other f i v j ne = cond-false (eqb j i) v (f j) (ne_eqb j i ne)

pub upd_same : {X : Type 0} (f : ℕ → X) (i : ℕ) (v : X) → upd f i v i ≡ v
unfolding upd
upd_same f i v = put_same f i v

pub upd_other : {X : Type 0} (f : ℕ → X) (i : ℕ) (v : X) (j : ℕ) → j ≢ i → upd f i v j ≡ f j
unfolding upd
upd_other f i v j ne = put_other f i v j ne

-- a value replaced by itself
pub upd_self : {X : Type 0} (f : ℕ → X) (i : ℕ) → upd f i (f i) ≡ f
upd_self f i = fun_ext (λ j. elim (ℕ_discrete j i) [ yes e ↦ ap (upd f i (f i)) e ∙ upd_same f i (f i) ∙ ap f (sym e) | no n ↦ upd_other f i (f i) j n ])

-- what holds of each value of a function with one value replaced
pub upd_all : {X : Type 0} (P : ℕ → X → Type 0) (f : ℕ → X) (i : ℕ) (v : X) → P i v → ((j : ℕ) → j ≢ i → P j (f j)) → (j : ℕ) → P j (upd f i v j)
upd_all P f i v here there j =
    elim (ℕ_discrete j i) [
      | yes e ↦ rw (e, upd_same f i v) here
      | no ne ↦ rw (upd_other f i v j ne) (there j ne)
    ]

pub upd_all₂ : {X Y : Type 0} (P : ℕ → X → Y → Type 0) (f : ℕ → X) (g : ℕ → Y) (i : ℕ) (v : X) (w : Y) →
    P i v w → ((j : ℕ) → j ≢ i → P j (f j) (g j)) → (j : ℕ) → P j (upd f i v j) (upd g i w j)
upd_all₂ P f g i v w here there j =
    elim (ℕ_discrete j i) [
      | yes e ↦ rw (e, upd_same f i v, upd_same g i w) here
      | no ne ↦ rw (upd_other f i v j ne, upd_other g i w j ne) (there j ne)
    ]

-- where a value that is read stands
pub data Seen {X : Type 0} (f : ℕ → X) (i : ℕ) (v : X) (j : ℕ) (x : X) : Type 0 where
  new : j ≡ i → v ≡ x → Seen f i v j x
  old : j ≢ i → f j ≡ x → Seen f i v j x

pub upd_view : {X : Type 0} (f : ℕ → X) (i : ℕ) (v : X) (j : ℕ) (x : X) → upd f i v j ≡ x → Seen f i v j x
upd_view f i v j x h =
    elim (ℕ_discrete j i) [
      | yes e ↦ new e (rw (e, upd_same f i v) at h)
      | no ne ↦ old ne (sym (upd_other f i v j ne) ∙ h)
    ]
