use Rattle.std.proofs.Common.{◌≡◌, length, rules}
use Rattle.in_place.proofs.Moves.{look_means}
use Rattle.in_place.proofs.state.InPlace.look.Goals as goal

pub returns-in-Some : goal.returns-in-Some
returns-in-Some c =
    let d = c.args.self.now in
    let long : length d.slots ≡ 8 = search rules in
    look_means d long c.args.slot c.in-Some.reads c.in-Some.is c.args.statement.now.cell c.insert.new.self c.insert.ensures
