-- Intake is what the function for every make makes of the cells and the mark.
use Rattle.deferred.proofs.Moves.{takes_means}
use Rattle.deferred.proofs.replicating.DeferredReplica.intake.Goals as goal

pub returns : goal.returns
returns c =
    let d = c.args.self.now in
    takes_means d.cells d.slots d.mark c.take_in.result c.args.statements.now c.args.position c.take_in.new.cells c.take_in.new.mark c.take_in.ensures
