-- One more ordered message is the first of the waiting ones.
use Rattle.std.proofs.Common.{◌<◌, length, refl, arith}
use Rattle.oldest_first.proofs.Parts.{first_moved, moved}
use Rattle.oldest_first.proofs.rows.ordering.OldestFirstBroadcast.order.Goals as goal

pub returns : goal.returns
returns c =
    let n = c.args.self.now.count in
    let xs = c.args.self.now.messages.items in
    let h : n < length xs = omega arith in
    let f = first_moved n xs h in
    record { moved = (c.ordered_count-position.ensures, moved f.0 _ _ _ _ f.1 f.2); capacity = refl; oldest = f }
