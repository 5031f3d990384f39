-- What stands at a place of a list.
use Rattle.std.proofs.Common.{◌≡◌, ℕ, zero, suc, ◌<◌, ◌≤◌, true, List, [], ◌∷◌, length, Some, None, Option, MatchOption, sym, refl, ◌∙◌, arith, Bor, leb-true}
use Rattle.std.proofs.lemmas.Bool.{and_parts}
use Rattle.broadcast.specs.Bags.{nth}
use Rattle.run_file.specs.declared.steps.Line.{Line}
use Rattle.std.specs.List.{AllWithin, HoldsAt}
use Rattle.std.proofs.lemmas.List.{length-map, get_or-map}
use Rattle.run_file.specs.Form.{Apart}
use Rattle.run_file.specs.Texts.{text_of, texts, text_at, longest, lines_are_short}

pub past_end : (ts : List (List ℕ)) (k : ℕ) → length ts ≤ k → text_at ts k ≡ []
past_end [] k h = refl
past_end (t ∷ ts) zero h = absurd (omega arith)
past_end (t ∷ ts) (suc k) h = past_end ts k (omega arith)

-- the first place of a name, found among the texts
pub first_listed :
    (rs : List (Bor (List ℕ))) (name : List ℕ) (r : Option ℕ) →
    MatchOption r (AllWithin (λ x. x.now ≡ name → ⊥) rs 0 (length rs))
    (λ i. (i < length rs) × HoldsAt (λ x. x.now ≡ name) rs i × AllWithin (λ x. x.now ≡ name → ⊥) rs 0 i) →
    MatchOption r (Apart (texts rs) name) (λ k. (k < length (texts rs)) × (text_at (texts rs) k ≡ name))
first_listed [] name None f = λ k h. absurd (omega arith)
first_listed (x ∷ xs) name None f = λ k h e.
    let within : k < length (x ∷ xs) = omega (arith, length-map (x ∷ xs) text_of) in
    f k x (omega arith) within (sym (get_or-map text_of (x ∷ xs) k x [] within) ∙ e)
first_listed [] name (Some i) f = absurd (omega (arith, f.0))
first_listed (x ∷ xs) name (Some i) f = (omega (arith, f.0, length-map (x ∷ xs) text_of), get_or-map text_of (x ∷ xs) i x [] f.0 ∙ f.1 x)

-- the line at a place of a list in which all are short
pub short_at : (ls : List Line) (p : ℕ) → lines_are_short ls ≡ true → MatchOption (nth ls p) (length ls ≤ p) (λ l. length l.text.now ≤ longest l.step)
short_at [] p s = omega arith
short_at (l ∷ ls) zero s = leb-true _ _ (and_parts _ _ s).0
short_at (l ∷ ls) (suc p) s = none_weaker (nth ls p) _ _ _ (λ (h : length ls ≤ p). omega arith) (short_at ls p (and_parts _ _ s).1)
  where
    none_weaker : (o : Option Line) (A B : Type 0) (P : Line → Type 0) → (A → B) → MatchOption o A P → MatchOption o B P
    none_weaker None A B P f h = f h
    none_weaker (Some l) A B P f h = h
