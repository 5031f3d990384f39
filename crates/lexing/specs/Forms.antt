-- The written forms of numbers and names.
use Rattle.std.specs.Prelude.{◌≡◌, ℕ, ◌^◌, ◌<◌, ◌≤◌, List, length, decimal, slice_index}

-- bs is the written form of the number n, which has at most 18 digits.
abbrev pub Writes : ℕ → List ℕ → Type 0
Writes n bs = (n < 10 ^ 18) × (bs ≡ decimal n)

-- A word that writes no number.
abbrev pub Word : List ℕ → Type 0
Word bs = (n : ℕ) → Writes n bs → ⊥

-- 1 to 8 letters a to z.
pub record Name (bs : List ℕ) : Type 0 where
  pub some : 0 < length bs
  pub short : length bs ≤ 8
  pub letters : (i : ℕ) → i < length bs → (97 ≤ slice_index bs i) × (slice_index bs i ≤ 122)
