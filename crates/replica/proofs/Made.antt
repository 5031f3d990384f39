-- An array that a closure made from the index, or from another array, where a call leaves the closure as it is.
use Rattle.std.proofs.Common.{◌≡◌, ℕ, zero, suc, ◌+◌, ◌<◌, ◌≤◌, List, length, get_or, sym, refl, ap, ◌∙◌, subst, ⊎_elim, arith}
use Rattle.std.proofs.lemmas.List.{get_or_past}
use Rattle.std.proofs.lemmas.Bool.{cases_eq, cases_lt}
use Rattle.std.specs.Fn.{Called}
use Rattle.std.specs.Array.{IsFromFnResult, IsFromFnResultFrom, IsMapOf, MapsFrom}
use denote.Param.Members.{Mut}

module _ {F B : Type 0} (g : Mut F (ℕ × Unit {0}) B) (f : F) (h : ℕ → B) (d : B) (call : (i : ℕ) (y : B) (q : F) → Called g f (i, tt) y q → (y ≡ h i) × (q ≡ f)) (ys : List B) where
  from : (n i : ℕ) (p : F) → p ≡ f → IsFromFnResultFrom g p ys i n → (k : ℕ) → i ≤ k → k < i + n → get_or ys k d ≡ h k
  from zero i p is made k low high = absurd (omega arith)
  from (suc n) i p is (q, y, at, called, rest) k low high =
      let one = call i y q (subst (λ e. Called g e (i, tt) y q) is called) in
      ⊎_elim
      (λ (e : k ≡ i). rw e (at.1 d ∙ one.0))
      (λ (ne : k ≡ i → ⊥). from n (i + 1) q one.1 rest k (omega arith) (omega arith))
      (cases_eq k i)

  -- each element, and past the end the default
  pub made_by : (n : ℕ) → IsFromFnResult g f ys n → ((k : ℕ) → n ≤ k → h k ≡ d) → (k : ℕ) → get_or ys k d ≡ h k
  made_by n made beyond k =
      ⊎_elim
      (λ (l : k < n). from n 0 f refl made.each k (omega arith) (omega arith))
      (λ (l : n ≤ k). get_or_past ys k d (omega (arith, made.long)) ∙ sym (beyond k l))
      (cases_lt k n)

module _ {F A B : Type 0} (g : Mut F (A × Unit {0}) B) (f : F) (h : A → B) (d : A) (call : (x : A) (y : B) (q : F) → Called g f (x, tt) y q → (y ≡ h x) × (q ≡ f)) (xs : List A) (ys : List B) where
  mapped : (n i : ℕ) (p : F) → p ≡ f → MapsFrom g p xs ys i n → (k : ℕ) → i ≤ k → k < i + n → get_or ys k (h d) ≡ h (get_or xs k d)
  mapped zero i p is made k low high = absurd (omega arith)
  mapped (suc n) i p is (q, x, y, from, to, called, rest) k low high =
      let one = call x y q (subst (λ e. Called g e (x, tt) y q) is called) in
      ⊎_elim
      (λ (e : k ≡ i). rw e (to.1 (h d) ∙ one.0 ∙ sym (ap h (from.1 d))))
      (λ (ne : k ≡ i → ⊥). mapped n (i + 1) q one.1 rest k (omega arith) (omega arith))
      (cases_eq k i)

  pub mapped_by : (n : ℕ) → length xs ≡ n → IsMapOf g f xs ys n → (k : ℕ) → get_or ys k (h d) ≡ h (get_or xs k d)
  mapped_by n long made k =
      ⊎_elim
      (λ (l : k < n). mapped n 0 f refl made.each k (omega arith) (omega arith))
      (λ (l : n ≤ k). get_or_past ys k (h d) (omega (arith, made.long)) ∙ sym (ap h (get_or_past xs k d (omega arith))))
      (cases_lt k n)
