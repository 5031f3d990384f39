-- The search goes through all eight lines, so that where it finds none nothing waits.
use Rattle.std.proofs.Common.{◌+◌, ◌%◌, MatchOption, arith, rules}
use Rattle.in_turn.specs.Turns.{waiting_of, turn_of, Empty, OldestIn}
use Rattle.in_turn.proofs.Places.{chosen_by}
use Rattle.in_turn.proofs.Searches.{found_in_range}
use Rattle.in_turn.proofs.lines.InTurn.chosen.Goals as goal

pub returns : goal.returns
returns c =
    let s = c.args.self.now in
    chosen_by s.next (waiting_of s) (omega arith) c.find_map.result
    (found_in_range _ _ 8 (λ j r. let line = (turn_of s + j) % 8 in MatchOption r (Empty line (waiting_of s)) (OldestIn line (waiting_of s)))
    (λ a q k e. search rules) (λ j q k e. search rules) c.find_map.result c.find_map.ensures.runs)
