use Rattle.std.proofs.Common.{arith}
use Rattle.stepping.proofs.Adding.{then_wrote}
use Rattle.stepping.proofs.Lengths.{digits_20}
use Rattle.stepping.proofs.putting.LineWriter.told.Goals as goal

pub number-requires : goal.number-requires
number-requires c = omega (arith, digits_20 c.args.number (omega arith))

pub returns-clause-text : goal.returns-clause-text
returns-clause-text c = then_wrote c.text.ensures c.number.ensures

pub returns-clause-short : goal.returns-clause-short
returns-clause-short c = omega (arith, digits_20 c.args.number (omega arith))
