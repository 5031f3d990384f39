-- Open is what the function for every make makes of the slots.
use Rattle.std.proofs.Common.{◌≡◌, length, rules}
use Rattle.deferred.proofs.Moves.{opens_means}
use Rattle.deferred.proofs.transacting.DeferredDatabase.open.Goals as goal

pub returns : goal.returns
returns c =
    let d = c.args.self.now in
    let long : length d.slots ≡ 8 = search rules in
    opens_means d.cells d.slots d.mark c.args.slot long c.new.result c.new.ensures c.open.result c.open.new.slots c.open.ensures
