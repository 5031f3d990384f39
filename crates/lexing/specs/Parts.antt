-- A text cut at each byte of one kind: lines at 10, words at 32.
use Rattle.std.specs.Prelude.{ℕ, cond, List, [], ◌∷◌, ◌++◌, ◌==◌, ◌≢◌}

-- A byte put in front of the first part.
abbrev pub onto : ℕ → List (List ℕ) → List (List ℕ)
onto b [] = (b ∷ []) ∷ []
onto b (w ∷ ws) = (b ∷ w) ∷ ws

-- The parts between the bytes s: always at least one.
abbrev pub parts : ℕ → List ℕ → List (List ℕ)
parts s [] = [] ∷ []
parts s (b ∷ bs) = cond (b == s) ([] ∷ parts s bs) (onto b (parts s bs))

-- The parts put together, with s between them.
abbrev pub joined : ℕ → List (List ℕ) → List ℕ
joined s [] = []
joined s (w ∷ []) = w
joined s (w ∷ v ∷ ws) = w ++ (s ∷ joined s (v ∷ ws))

-- No byte is s.
abbrev pub Free : ℕ → List ℕ → Type 0
Free s [] = Unit {0}
Free s (b ∷ bs) = (b ≢ s) × Free s bs

abbrev pub AllFree : ℕ → List (List ℕ) → Type 0
AllFree s [] = Unit {0}
AllFree s (w ∷ ws) = Free s w × AllFree s ws
