-- The written form of a number, byte by byte.
use Rattle.std.proofs.Common.{◌≡◌, ℕ, ◌^◌, ◌<◌, ◌≤◌, List, length, get_or, take, decimal, sym, refl, ap, ◌∙◌, subst, ⊎_elim, zero-lt-suc, arith, length-take-le}
use native.Mathlib.Nat.{pow-le-pow_right}
use Rattle.std.specs.Str.Parse.{AllDigits, digits_value}
use Rattle.std.proofs.lemmas.Fmt.{decimal_is_IsNumeral, length-decimal-le, first_decimal, decimal_digit, decimal-digits_value, decimal_injective}
use Rattle.std.proofs.lemmas.Str.Parse.{numerals_by_value, tells_digits, digit_at}
use Rattle.std.proofs.lemmas.Int.Digits.{digits_value-lt}
use Rattle.std.proofs.str.Laws.{order}
use Rattle.lexing.specs.Forms.{Writes, Name}
use Rattle.lexing.specs.Parts.{Free}
use Rattle.lexing.proofs.Cuts.{free_by_index}

-- what the bytes of a written number look like
pub record Shape (bs : List ℕ) : Type 0 where
  pub some : 0 < length bs
  pub short : length bs ≤ 18
  pub digits : AllDigits 10 bs
  pub plain : get_or bs 0 0 ≡ 48 → length bs ≡ 1

pub fits : (n : ℕ) → n < 10 ^ 18 → n < 2 ^ 64
fits n h = omega arith

of_decimal : (n : ℕ) → n < 10 ^ 18 → Shape (decimal n)
of_decimal n h =
    let small = fits n h in
    let told = (decimal_is_IsNumeral n small).0 in
    record {
      some = told.0;
      short = length-decimal-le 18 n (omega arith) h small;
      digits = told.1;
      plain = λ zero_first. ⊎_elim (λ pos. absurd (omega (arith, first_decimal n pos small))) (λ none. let z : n ≡ 0 = omega arith in ap (λ k. length (decimal k)) z ∙ ap length (decimal_digit 0 (omega arith))) (order 0 n);
    }

pub shape : (n : ℕ) (bs : List ℕ) → Writes n bs → Shape bs
shape n bs w = subst Shape (sym w.1) (of_decimal n w.0)

pub short_value : (bs : List ℕ) (k : ℕ) → AllDigits 10 bs → length bs ≤ k → digits_value 10 bs < 10 ^ k
short_value bs k d h = omega (arith, digits_value-lt 10 bs d, pow-le-pow_right {n = 10} (zero-lt-suc 9) h)

pub writes : (bs : List ℕ) → Shape bs → Writes (digits_value 10 bs) bs
writes bs s =
    let small = short_value bs 18 s.digits s.short in
    (small, sym (decimal-digits_value (numerals_by_value _ tells_digits) bs s.digits s.some s.plain (fits _ small)))

-- one digit more of a number of at most 18 digits still fits
pub room : (bs : List ℕ) (i n : ℕ) → length bs ≤ 18 → i < length bs → AllDigits 10 (take i bs) → n ≡ digits_value 10 (take i bs) → n < 10 ^ 17
room bs i n short lt d e =
    let long = length-take-le i bs (omega arith) in
    let h = short_value (take i bs) 17 d (omega arith) in
    omega arith

-- what begins with a letter writes no number
pub no_letter : (n : ℕ) (bs : List ℕ) → Writes n bs → 97 ≤ get_or bs 0 0 → ⊥
no_letter n bs w h = let s = shape n bs w in omega (arith, digit_at bs 0 s.digits s.some)

pub only_one : (m n : ℕ) → m < 10 ^ 18 → n < 10 ^ 18 → decimal m ≡ decimal n → m ≡ n
only_one m n a b e = decimal_injective m n (fits m a) (fits n b) e

-- a byte below the digits is in no number and no name
pub number_free : (b n : ℕ) → b < 48 → n < 10 ^ 18 → Free b (decimal n)
number_free b n low h = let s = shape n _ (h, refl) in free_by_index b _ (λ k lt e. omega (arith, digit_at _ k s.digits lt))

pub name_free : (b : ℕ) (bs : List ℕ) → b < 48 → Name bs → Free b bs
name_free b bs low s = free_by_index b bs (λ k lt e. omega (arith, s.letters k lt))
