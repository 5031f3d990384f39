-- What the parts of a text are.
use Rattle.std.proofs.Common.{◌≡◌, ℕ, suc, ◌+◌, ◌-◌, ◌<◌, true, false, cond, eqb, List, [], ◌∷◌, ◌++◌, length, get_or, take, drop, sym, refl, ap, ◌∙◌, le_refl, add-one, arith, take-append-drop, length-take-le, drop-cons, get_or-take, eq-eqb, true-eqb}
use Rattle.std.proofs.lemmas.Bool.{ne_eqb}
use Rattle.std.proofs.lemmas.Slice.{between_to_end}
use Rattle.lexing.specs.Parts.{parts, onto, joined, Free, AllFree}

pub parts_free : (s : ℕ) (bs : List ℕ) → Free s bs → parts s bs ≡ bs ∷ []
parts_free s [] f = refl
parts_free s (b ∷ bs) f = rw (ne_eqb b s f.0, parts_free s bs f.1)

pub parts_cut : (s : ℕ) (w bs : List ℕ) → Free s w → parts s (w ++ (s ∷ bs)) ≡ w ∷ parts s bs
parts_cut s [] bs f = rw (eq-eqb s s refl)
parts_cut s (b ∷ w) bs f = rw (ne_eqb b s f.0, parts_cut s w bs f.1)

pub free_by_index : (s : ℕ) (bs : List ℕ) → ((k : ℕ) → k < length bs → get_or bs k 0 ≡ s → ⊥) → Free s bs
free_by_index s [] h = tt
free_by_index s (b ∷ bs) h = (h 0 (omega arith), free_by_index s bs (λ k lt e. h (suc k) (omega arith) e))

-- words free of s that are put together come apart again
pub parts_joined : (s : ℕ) (w : List ℕ) (ws : List (List ℕ)) → AllFree s (w ∷ ws) → parts s (joined s (w ∷ ws)) ≡ w ∷ ws
parts_joined s w [] f = parts_free s w f.0
parts_joined s w (v ∷ ws) f = parts_cut s w _ f.0 ∙ ap (λ l. w ∷ l) (parts_joined s v ws f.1)

joined_onto : (s b : ℕ) (ws : List (List ℕ)) → joined s (onto b ws) ≡ b ∷ joined s ws
joined_onto s b [] = refl
joined_onto s b (w ∷ []) = refl
joined_onto s b (w ∷ v ∷ ws) = refl

-- there is at least one part
some : (s : ℕ) (bs : List ℕ) → (w : List ℕ) × (ws : List (List ℕ)) × (parts s bs ≡ w ∷ ws)
some s [] = ([], [], refl)
some s (b ∷ bs) = elim (eqb b s) as (λ v. (w : List ℕ) × (ws : List (List ℕ)) × (cond v ([] ∷ parts s bs) (onto b (parts s bs)) ≡ w ∷ ws)) [ true ↦ ([], parts s bs, refl) | false ↦ (let p = some s bs in (b ∷ p.0, p.1, ap (onto b) p.2)) ]

pub joined_parts : (s : ℕ) (bs : List ℕ) → joined s (parts s bs) ≡ bs
joined_parts s [] = refl
joined_parts s (b ∷ bs) =
    let more = joined_parts s bs in
    let p = some s bs in
    elim (eqb b s) as (λ v. eqb b s ≡ v → joined s (cond v ([] ∷ parts s bs) (onto b (parts s bs))) ≡ b ∷ bs) [
      | true ↦ λ e. ap (λ l. joined s ([] ∷ l)) p.2 ∙ ap (λ l. s ∷ l) (ap (joined s) (sym p.2) ∙ more) ∙ ap (λ c. c ∷ bs) (sym (true-eqb b s (sym e)))
      | false ↦ λ e. joined_onto s b (parts s bs) ∙ ap (λ l. b ∷ l) more
    ] refl

-- a text whose first s stands at i
pub cut_at :
    (s : ℕ) (bs : List ℕ) (i : ℕ) → i < length bs → get_or bs i 0 ≡ s → ((k : ℕ) → k < i → get_or bs k 0 ≡ s → ⊥) →
    Free s (take i bs) × (bs ≡ take i bs ++ (s ∷ take (length bs - (i + 1)) (drop (i + 1) bs)))
cut_at s bs i lt e none =
    let long = length-take-le i bs (omega arith) in
    let f : Free s (take i bs) = free_by_index s (take i bs) (λ k h g. none k (omega arith) (sym (get_or-take i bs k 0 (omega arith)) ∙ g)) in
    let p : drop i bs ≡ s ∷ drop (i + 1) bs = drop-cons bs i 0 lt ∙ ap (λ c. c ∷ drop (suc i) bs) e ∙ ap (λ n. s ∷ drop n bs) (sym (add-one i)) in
    let all : bs ≡ take i bs ++ (s ∷ drop (i + 1) bs) = sym (take-append-drop i bs) ∙ ap (λ l. take i bs ++ l) p in
    (f, all ∙ ap (λ l. take i bs ++ (s ∷ l)) (sym (between_to_end bs (i + 1) (length bs) (le_refl (length bs)))))

pub never_none : (s : ℕ) (bs : List ℕ) → parts s bs ≡ [] → ⊥
never_none s bs e = let p = (some s bs).2 in let z : ◌≡◌ {A = ℕ} 0 1 = cc in omega arith

free_append : (b : ℕ) (xs ys : List ℕ) → Free b xs → Free b ys → Free b (xs ++ ys)
free_append b [] ys f g = g
free_append b (x ∷ xs) ys f g = (f.0, free_append b xs ys f.1 g)

-- words free of b, joined by another byte, are free of b
pub joined_free : (b s : ℕ) → (s ≡ b → ⊥) → (ws : List (List ℕ)) → AllFree b ws → Free b (joined s ws)
joined_free b s ne [] f = tt
joined_free b s ne (w ∷ []) f = f.0
joined_free b s ne (w ∷ v ∷ ws) f = free_append b w _ f.0 (ne, joined_free b s ne (v ∷ ws) f.1)
