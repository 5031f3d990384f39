use Rattle.std.proofs.Common.{◌≡◌, length, rules}
use Rattle.in_place.proofs.Moves.{takes_means}
use Rattle.in_place.proofs.replicating.InPlaceReplica.intake.Goals as goal

pub returns : goal.returns
returns c =
    let d = c.args.self.now in
    let long : length d.slots ≡ 8 = search rules in
    takes_means d long c.take_in.result c.args.statements.now c.args.position c.take_in.new.cells c.take_in.new.mark c.take_in.ensures
