-- The chosen message is taken out of the waiting ones and put at the end of the log, and the turn passes on.
use Rattle.std.proofs.Common.{◌≡◌, ◌+◌, ◌%◌, ◌<◌, length, Some, refl, ap, arith, rules}
use Rattle.std.proofs.lemmas.List.{length-map}
use Rattle.std.proofs.lemmas.Option.{MatchOption-at_some}
use Rattle.message.specs.Messages.{msg_of}
use Rattle.broadcast.specs.Bags.{nth}
use Rattle.in_turn.specs.Turns.{log_of, waiting_of}
use Rattle.in_turn.proofs.Places.{read_at, within, moved_from, left_shown, longer_shown}
use Rattle.in_turn.proofs.lines.ordering.InTurnBroadcast.order.Goals as goal

pub returns : goal.returns
returns c =
    let s = c.args.self.now in
    let xs = s.waiting.items in
    let place = c.in_ok-place.place in
    let m = c.remove-message.result in
    let found : c.chosen.result ≡ Some place = grind arith in
    let chosen = MatchOption-at_some _ _ place found c.chosen.ensures in
    let short : place < length xs = omega (arith, within (waiting_of s) place chosen.2.0.0 chosen.2.0.1, length-map xs msg_of) in
    let there : nth (waiting_of s) place ≡ Some (msg_of m) = read_at xs xs place m refl short c.remove-message.ensures.value in
    record {
      moved = (c.ordered_count-position.ensures, moved_from (log_of s) (waiting_of s) _ _ place (msg_of m) there (left_shown xs _ place (search rules)) (longer_shown m s.ordered.items _ (search rules)));
      capacity = refl;
      turn = record {
        place = place;
        message = msg_of m;
        chosen = chosen;
        there = there;
        left = left_shown xs _ place (search rules);
        added = longer_shown m s.ordered.items _ (search rules);
        turn = ap (λ n. (n + 1) % 8) c.line_of.ensures;
      };
    }
