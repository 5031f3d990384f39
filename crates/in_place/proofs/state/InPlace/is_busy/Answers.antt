use Rattle.std.proofs.Common.{rules}
use Rattle.statement.specs.Operations.{writes_cell}
use Rattle.replica.specs.Meanings.{excludes}
use Rattle.replica.proofs.Indices.{any_in_range}
use Rattle.in_place.specs.State.{meaning_of}
use Rattle.in_place.proofs.state.InPlace.is_busy.Goals as goal

pub returns : goal.returns
returns c =
    let st = c.args.statement.now in
    any_in_range (excludes (meaning_of c.args.self.now) c.args.slot st.cell (writes_cell st.operation)) 8 _ _ c.any.result c.any.ensures.ran (λ x b q k. search rules)
