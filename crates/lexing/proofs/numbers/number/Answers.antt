use Rattle.std.proofs.Common.{◌≡◌, length, get_or, take, sym, ap, ◌∙◌, subst, ⊎_elim, arith, take_all}
use Rattle.std.specs.Str.Parse.{AllDigits, digits_value}
use Rattle.std.proofs.lemmas.Str.Parse.{digit_at}
use Rattle.std.proofs.lemmas.Int.Digits.{digits_value_more, digits_more}
use Rattle.std.proofs.lemmas.Str.{digit_value_digit}
use Rattle.lexing.specs.Forms.{Writes}
use Rattle.lexing.proofs.Digits.{Shape, shape, writes, room}
use Rattle.lexing.proofs.numbers.number.Goals as goal

pub returns-then-word-eq0 : goal.returns-then-word-eq0
returns-then-word-eq0 c n w = let s = shape n _ w in omega arith

pub returns-then-word-gt1 : goal.returns-then-word-gt1
returns-then-word-gt1 c n w = let s = shape n _ w in omega (arith, s.plain c.if-word-eq48.true)

pub returns-then-not-is_ascii_digit : goal.returns-then-not-is_ascii_digit
returns-then-not-is_ascii_digit c n w =
    let s = shape n _ w in
    let h = digit_at _ c.loop-b.b-index s.digits c.loop-b-test.true in
    let k = c.if-not-is_ascii_digit.ensures.cases in
    omega arith

pub overflow_mul-n : goal.overflow_mul-n
overflow_mul-n c = omega (arith, room _ _ _ c.if-word-gt-DIGITS.false c.loop-b-test.true c.loop-b.invariant.0 c.loop-b.invariant.1)

pub overflow_add-n : goal.overflow_add-n
overflow_add-n c = omega (arith, room _ _ _ c.if-word-gt-DIGITS.false c.loop-b-test.true c.loop-b.invariant.0 c.loop-b.invariant.1)

pub loop-b-preserved : goal.loop-b-preserved
loop-b-preserved c =
    let d = c.if-not-is_ascii_digit.ensures in
    let v = digits_value_more 10 _ _ c.loop-b-test.true in
    let k = digit_value_digit _ d.cases in
    (digits_more 10 _ _ c.loop-b-test.true c.loop-b.invariant.0 d.bound, omega (arith, c.loop-b.invariant.1))

pub returns : goal.returns
returns c =
    let bs = c.args.word.now in
    let all : take c.loop-b.b-index bs ≡ bs = take_all c.loop-b.b-index bs c.loop-b-test.false in
    let plain : get_or bs 0 0 ≡ 48 → length bs ≡ 1 = λ z. ⊎_elim (λ h. omega arith) (λ h. absurd (h z)) c.else-word-eq48.either in
    let s : Shape bs = record { some = omega arith; short = c.if-word-gt-DIGITS.false; digits = subst (AllDigits 10) all c.loop-b.invariant.0; plain = plain } in
    subst (λ n. Writes n bs) (sym (c.loop-b.invariant.1 ∙ ap (digits_value 10) all)) (writes bs s)
