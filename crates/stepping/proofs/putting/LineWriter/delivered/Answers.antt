use Rattle.std.proofs.Common.{arith}
use Rattle.stepping.proofs.Adding.{then_wrote}
use Rattle.stepping.proofs.Lengths.{digits_20}
use Rattle.stepping.proofs.putting.LineWriter.delivered.Goals as goal

pub number-requires : goal.number-requires
number-requires c = omega (arith, digits_20 c.in-Again.earlier (omega arith))

pub returns-in-Accepted : goal.returns-in-Accepted
returns-in-Accepted c = rw c.in-Accepted.is (then_wrote c.told.ensures.text c.text.ensures)

pub returns-in-Stale : goal.returns-in-Stale
returns-in-Stale c = rw c.in-Stale.is (then_wrote c.told.ensures.text c.text-in-Stale.ensures)

pub returns-in-Committed : goal.returns-in-Committed
returns-in-Committed c =
    rw c.in-Committed.is (then_wrote c.told.ensures.text (then_wrote c.text-in-Committed.ensures c.owner.ensures.text))

pub returns-in-Late : goal.returns-in-Late
returns-in-Late c =
    rw c.in-Late.is (then_wrote c.told.ensures.text (then_wrote c.text-in-Late.ensures c.owner-in-Late.ensures.text))

pub returns-in-Again : goal.returns-in-Again
returns-in-Again c =
    let owner = then_wrote c.text-in-Again.ensures c.owner-in-Again.ensures.text in
    rw c.in-Again.is (then_wrote c.told.ensures.text (then_wrote (then_wrote owner c.text-in-Again-2.ensures) c.number.ensures))
