use Rattle.std.proofs.Common.{None, replicate}
use Rattle.in_place.proofs.Means.{bare_held}
use Rattle.in_place.proofs.Moves.{lose_means}
use Rattle.in_place.proofs.transacting.InPlaceDatabase.lose.Goals as goal

pub returns : goal.returns
returns c = lose_means c.args.self.now c.base_all.new.cells c.base_all.ensures

pub invariant_of-self : goal.invariant_of-self
invariant_of-self c = record { held = bare_held (replicate 8 None) }
