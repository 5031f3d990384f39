-- Closing a slot is what undo leaves.
use Rattle.std.proofs.Common.{◌≡◌, length, rules}
use Rattle.deferred.proofs.Moves.{undo_means}
use Rattle.deferred.proofs.state.Deferred.close.Goals as goal

pub returns : goal.returns
returns c =
    let d = c.args.self.now in
    let long : length d.slots ≡ 8 = search rules in
    undo_means d.cells d.slots d.mark c.args.slot c.requires long
