-- Two lists of words that are the same.
use Rattle.std.proofs.Common.{◌≡◌, ℕ, Bool, true, false, not, List, [], ◌∷◌, Some, None, Option, is_some, Decides, refl, Bor}
use Rattle.std.proofs.lemmas.Bool.{false≢true}
use Rattle.lexing.specs.Tokens.{left_of}
use Rattle.lexing.proofs.Cuts.{never_none}

pub head_same : {was : List (List ℕ)} {v w : List ℕ} {vs ws : List (List ℕ)} → was ≡ v ∷ vs → was ≡ w ∷ ws → v ≡ w
head_same p q = cc

pub tail_same : {was : List (List ℕ)} {v w : List ℕ} {vs ws : List (List ℕ)} → was ≡ v ∷ vs → was ≡ w ∷ ws → vs ≡ ws
tail_same p q = cc

-- no words are left where there is no rest of the line
pub none_left : (rest : Option (Bor (List ℕ))) (done : Bool) → is_some rest ≡ not done → Decides done (left_of rest ≡ [])
none_left None true e = (λ _. refl, λ _. refl)
none_left None false e = absurd (false≢true e)
none_left (Some t) true e = cc
none_left (Some t) false e = (λ f. cc, λ f. absurd (never_none 32 t.now f))
