-- One database ahead of the others: its calls, and theirs, as the bank's.
use Rattle.std.proofs.Common.{◌≡◌, ℕ, zero, suc, ◌+◌, ◌-◌, ◌<◌, Bool, true, false, cond, eqb, ltb, ◌≢◌, Some, Ok, Err, Option, Result, sym, refl, ap, ◌∙◌, arith}
use mathlib.Core.Path.{fun_ext}
use native.Mathlib.Decide.{ℕ_discrete}
use Rattle.std.proofs.lemmas.Bool.{cond-true, cond-false, eq-eqb, ne_eqb, lt-ltb, le-ltb}
use Rattle.replica.specs.declared.faults.Fault.{Fault}
use Rattle.replica.specs.declared.faults.Fault.TheVariants.{NoDatabase}
use Rattle.replica.specs.Meanings.{Meaning, upd}
use Rattle.replica.specs.Calls.{cleared, lost}
use Rattle.replica.specs.Outcomes.{Told}
use Rattle.bank.specs.Places.{ahead, cleared_below, ToldAt}
use Rattle.pronto.specs.Refusing.{at_place}

module _ {X : Type 0} (x : X) (f : ℕ → X) (i : ℕ) where
  pub at_first : i ≡ 0 → ahead x f i ≡ x
  unfolding ahead
  at_first e = cond-true (eqb i 0) x (f (i - 1)) (eq-eqb i 0 e)

  pub at_rest : i ≢ 0 → ahead x f i ≡ f (i - 1)
  unfolding ahead
  at_rest n = cond-false (eqb i 0) x (f (i - 1)) (ne_eqb i 0 n)

  pub upd_at : (y : X) (j : ℕ) → j ≡ i → upd f i y j ≡ y
  unfolding upd
  upd_at y j e = cond-true (eqb j i) y (f j) (eq-eqb j i e)

  pub upd_off : (y : X) (j : ℕ) → j ≢ i → upd f i y j ≡ f j
  unfolding upd
  upd_off y j n = cond-false (eqb j i) y (f j) (ne_eqb j i n)

pos : (k : ℕ) → k ≢ 0 → 0 < k
pos zero h = absurd (h refl)
pos (suc k) h = omega arith

module _ {X : Type 0} (x y : X) (f : ℕ → X) (i : ℕ) where
  pub put_first : i ≡ 0 → ahead y f ≡ upd (ahead x f) i y
  put_first e = fun_ext (λ j. elim (ℕ_discrete j i) [
    | yes h ↦ at_first y f j (h ∙ e) ∙ sym (upd_at y (ahead x f) i y j h)
    | no n ↦ at_rest y f j (λ z. n (z ∙ sym e)) ∙ sym (upd_off y (ahead x f) i y j n ∙ at_rest x f j (λ z. n (z ∙ sym e)))
  ])

  pub put_rest : i ≢ 0 → ahead x (upd f (i - 1) y) ≡ upd (ahead x f) i y
  put_rest m = fun_ext (λ j. elim (ℕ_discrete j i) [
    | yes h ↦ at_rest x (upd f (i - 1) y) j (λ z. m (sym h ∙ z)) ∙ upd_at y f (i - 1) y (j - 1) (ap (λ k. k - 1) h) ∙ sym (upd_at y (ahead x f) i y j h)
    | no n ↦ elim (ℕ_discrete j 0) [
      | yes z ↦ at_first x (upd f (i - 1) y) j z ∙ sym (upd_off y (ahead x f) i y j n ∙ at_first x f j z)
      | no p ↦ at_rest x (upd f (i - 1) y) j p ∙ upd_off y f (i - 1) y (j - 1) (λ q. n (omega (arith, q, pos j p, pos i m))) ∙ sym (upd_off y (ahead x f) i y j n ∙ at_rest x f j p)
    ]
  ])

module _ {T : Type 0} (i : ℕ) (x : Meaning) (f : ℕ → Meaning) where
  pub told_first : (r : Result T Fault) (y : Meaning) (a b : Option Fault) (P Q : T → Type 0) (c d : Meaning) → i ≡ 0 → a ≡ b → ((v : T) → P v → Q v) → c ≡ d → Told r a P x y c → ToldAt r b Q i (ahead x f) (ahead y f) d
  told_first (Ok v) y a b P Q c d z e q h told = (sym e ∙ told.0, q v told.1, put_first x y f i z ∙ ap (upd (ahead x f) i) (told.2 ∙ h))
  told_first (Err s) y a b P Q c d z e q h told = (sym e ∙ told.0, ap (λ m. ahead m f) told.1)

  pub told_rest : (r : Result T Fault) (g : ℕ → Meaning) (a b : Option Fault) (P Q : T → Type 0) (c d : Meaning) → i ≢ 0 → a ≡ b → ((v : T) → P v → Q v) → c ≡ d → ToldAt r a P (i - 1) f g c → ToldAt r b Q i (ahead x f) (ahead x g) d
  told_rest (Ok v) g a b P Q c d z e q h told = (sym e ∙ told.0, q v told.1, ap (ahead x) (told.2 ∙ ap (upd f (i - 1)) h) ∙ put_rest x d f i z)
  told_rest (Err s) g a b P Q c d z e q h told = (sym e ∙ told.0, ap (ahead x) told.1)

pub out_first : (size i : ℕ) (o : Option Fault) → i ≡ 0 → o ≡ at_place (size + 1) i o
unfolding at_place
out_first size i o e = sym (cond-true (ltb i (size + 1)) o _ (lt-ltb i (size + 1) (omega (arith, e))))

shift : (size i : ℕ) → i ≢ 0 → ltb (i - 1) size ≡ ltb i (size + 1)
shift size zero n = absurd (n refl)
shift size (suc k) n = grind arith

pub out_rest : (size i : ℕ) (o : Option Fault) → i ≢ 0 → at_place size (i - 1) o ≡ at_place (size + 1) i o
unfolding at_place
out_rest size i o n = ap (λ b. cond b o (Some NoDatabase)) (shift size i n)

-- nothing is there
pub upd_none : (i : ℕ) → (λ (_ : ℕ). cleared) ≡ upd (λ _. cleared) i (lost cleared)
unfolding upd lost cleared
upd_none i = fun_ext (λ j. by (eqb j i)) where
  by : (b : Bool) → cleared ≡ cond b (lost cleared) cleared
  by true = refl
  by false = refl

-- the first database and those before place n - 1 of the others
pub all_cleared : (x y : Meaning) (f g : ℕ → Meaning) (n : ℕ) → 0 < n → y ≡ cleared → g ≡ cleared_below (n - 1) f → ahead y g ≡ cleared_below n (ahead x f)
all_cleared x y f g n some e h = fun_ext (λ j.
    elim (ℕ_discrete j 0) [
      | yes z ↦ at_first y g j z ∙ e ∙ sym (cond-true (ltb j n) cleared (ahead x f j) (lt-ltb j n (omega (arith, z))))
      | no m ↦ at_rest y g j m ∙ ap (λ (k : ℕ → Meaning). k (j - 1)) h
          ∙ ap (λ b. cond b cleared (f (j - 1))) (earlier j n (pos j m) some)
          ∙ ap (cond (ltb j n) cleared) (sym (at_rest x f j m))
    ])
  where
    earlier : (j n : ℕ) → 0 < j → 0 < n → ltb (j - 1) (n - 1) ≡ ltb j n
    earlier zero n p q = absurd (omega arith)
    earlier (suc j) zero p q = absurd (omega arith)
    earlier (suc j) (suc n) p q = grind arith

pub out_none : (i : ℕ) (o : Option Fault) → at_place 0 i o ≡ Some NoDatabase
unfolding at_place
out_none i o = cond-false (ltb i 0) o (Some NoDatabase) (le-ltb i 0 (omega arith))
