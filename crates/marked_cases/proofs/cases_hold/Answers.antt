use Rattle.std.proofs.Common.{refl}
use lib.Count.{ones, ones_in}
use Rattle.replica.specs.Meanings.{upd}
use Rattle.journal.specs.Judging.{judge, at, primary}
use Rattle.marked_cases.proofs.cases_hold.Goals as goal

-- The checker computes both columns of the table.
pub returns : goal.returns
unfolding primary judge at upd ones ones_in
returns c = refl
