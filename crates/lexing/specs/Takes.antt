-- Reading the front of a list of words.
use Rattle.std.specs.Prelude.{◌≡◌, ℕ, List, ◌++◌, Option, MatchOption, ◌≢◌}

-- r is the good x whose words stand in front of `was`, with `is` left; or None, where there is no such x.
abbrev pub Takes : {X : Type 0} → (X → Type 0) → (X → List (List ℕ)) → Option X → List (List ℕ) → List (List ℕ) → Type 0
Takes {X} Good words r was is = MatchOption r ((x : X) (ws : List (List ℕ)) → Good x → was ≢ words x ++ ws) (λ x. Good x × (was ≡ words x ++ is))
