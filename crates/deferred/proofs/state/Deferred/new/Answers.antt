-- A new database is cleared.
use Rattle.deferred.proofs.Moves.{clear_means}
use Rattle.deferred.proofs.state.Deferred.new.Goals as goal

pub returns : goal.returns
returns c = clear_means
