use Rattle.std.proofs.Common.{◌≡◌, length, rules}
use Rattle.in_place.proofs.Moves.{opens_means, opens_held}
use Rattle.in_place.proofs.transacting.InPlaceDatabase.open.Goals as goal

pub returns : goal.returns
returns c =
    let d = c.args.self.now in
    let long : length d.slots ≡ 8 = search rules in
    opens_means d long c.args.slot c.new.result c.new.ensures c.open.result c.open.new.slots c.open.ensures

pub invariant_of-self : goal.invariant_of-self
invariant_of-self c =
    let d = c.args.self.now in
    let long : length d.slots ≡ 8 = search rules in
    record { held = opens_held d.formers d.slots c.args.slot c.new.result long d.held c.open.result c.open.new.slots c.open.ensures }
