use Rattle.std.proofs.Common.{ap, length, ◌++◌, codes, decimal, arith, rules}
use Rattle.stepping.proofs.Adding.{then_wrote, wrote_same, wrote_all}
use Rattle.stepping.proofs.Lengths.{digits_10, digits_20}
use Rattle.stepping.proofs.lines.write_fault.Goals as goal

pub number-requires : goal.number-requires
number-requires c = omega (arith, ap length c.new-out.ensures.line, digits_20 c.args.number (omega arith))

pub text-requires-2 : goal.text-requires-2
text-requires-2 c = omega (arith, ap length c.new-out.ensures.line, digits_20 c.args.number (omega arith))

pub number-requires-2 : goal.number-requires-2
number-requires-2 c = omega (arith, ap length c.new-out.ensures.line, digits_20 c.args.number (omega arith), digits_10 c.from.result (omega arith))

pub returns : goal.returns
returns c =
    let front = then_wrote (then_wrote c.text.ensures c.number.ensures) c.text-2.ensures in
    let all =
    wrote_same (λ i. codes "file " ++ decimal c.args.number ++ codes " " ++ decimal (c.from.ensures i)) (then_wrote front c.number-2.ensures) in
    (c.if-line-lt-LINE_BYTES.false, wrote_all c.new-out.ensures.line c.new-out.ensures.start (search rules) c.len.ensures all)
