-- Some slot excludes the lock exactly where one is found.
use Rattle.std.proofs.Common.{rules}
use Rattle.statement.specs.Operations.{writes_cell}
use Rattle.replica.specs.Meanings.{excludes}
use Rattle.replica.proofs.Indices.{any_in_range}
use Rattle.deferred.specs.Units.{unit_of_eight}
use Rattle.deferred.specs.Means.{meaning_of}
use Rattle.deferred.proofs.state.Deferred.is_busy.Goals as goal

pub returns : goal.returns
returns c =
    let st = c.args.statement.now in
    any_in_range (excludes (meaning_of c.args.self.now) c.args.slot (unit_of_eight st.cell) (writes_cell st.operation)) 8 _ _ c.any.result c.any.ensures.ran (λ x b q k. search rules)
