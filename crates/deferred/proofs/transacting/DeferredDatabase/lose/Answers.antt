-- With eight closed slots nothing is open.
use Rattle.deferred.proofs.Moves.{lose_means}
use Rattle.deferred.proofs.transacting.DeferredDatabase.lose.Goals as goal

pub returns : goal.returns
returns c = let d = c.args.self.now in lose_means d.cells d.slots d.mark
