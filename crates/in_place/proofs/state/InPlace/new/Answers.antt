use Rattle.std.proofs.Common.{None, replicate}
use Rattle.in_place.proofs.Means.{bare_held, clear_means}
use Rattle.in_place.proofs.state.InPlace.new.Goals as goal

pub returns : goal.returns
returns c = clear_means

pub invariant_of-result : goal.invariant_of-result
invariant_of-result c = record { held = bare_held (replicate 8 None) }
