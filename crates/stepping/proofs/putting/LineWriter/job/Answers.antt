use Rattle.std.proofs.Common.{◌++◌, codes, decimal, arith}
use Rattle.stepping.proofs.Adding.{then_wrote, wrote_same}
use Rattle.stepping.proofs.Lengths.{digits_10}
use Rattle.stepping.proofs.putting.LineWriter.job.Goals as goal

pub number-requires : goal.number-requires
number-requires c = omega (arith, digits_10 c.from.result (omega arith))

pub returns-clause-text : goal.returns-clause-text
returns-clause-text c =
    wrote_same (λ i. c.args.name.now ++ codes " " ++ decimal (c.from.ensures i))
    (then_wrote (then_wrote c.text.ensures c.text-2.ensures) c.number.ensures)

pub returns-clause-short : goal.returns-clause-short
returns-clause-short c = omega (arith, digits_10 c.from.result (omega arith))
