use Rattle.std.proofs.Common.{◌++◌, codes, decimal, sym, ◌∙◌, append-nil, arith}
use Rattle.stepping.specs.Answers.{cell_text}
use Rattle.stepping.proofs.Adding.{then_wrote, wrote_same}
use Rattle.stepping.proofs.Lengths.{refusal_digits, digits_20}
use Rattle.stepping.proofs.putting.LineWriter.refusal.Goals as goal

pub number-requires-2 : goal.number-requires-2
number-requires-2 c = omega (arith, refusal_digits c.args.refusal c.number.result c.number.ensures)

pub text-requires-in-Some : goal.text-requires-in-Some
text-requires-in-Some c = omega (arith, refusal_digits c.args.refusal c.number.result c.number.ensures)

pub number-requires-in-Some : goal.number-requires-in-Some
number-requires-in-Some c =
    omega (arith, refusal_digits c.args.refusal c.number.result c.number.ensures, digits_20 c.in-Some.cell (omega arith))

pub returns-in-Some : goal.returns-in-Some
returns-in-Some c =
    wrote_same (λ i. codes "no " ++ decimal (c.number.ensures i) ++ cell_text (c.in-Some.ensures i))
    (then_wrote (then_wrote c.text.ensures c.number-2.ensures) (then_wrote c.text-in-Some.ensures c.number-in-Some.ensures))

pub returns-in_default : goal.returns-in_default
returns-in_default c =
    let none = sym c.in_default.is ∙ c.busy_cell.ensures in
    wrote_same (sym (append-nil _) ∙ (λ i. codes "no " ++ decimal (c.number.ensures i) ++ cell_text (none i)))
    (then_wrote c.text.ensures c.number-2.ensures)
