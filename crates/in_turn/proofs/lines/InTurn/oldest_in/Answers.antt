-- The first message of the line that the search meets is the oldest; where it meets none, the line is empty.
use Rattle.std.proofs.Common.{◌≡◌, rules}
use Rattle.std.proofs.lemmas.Iterator.{YieldsList-from_slice, IsFirst-from_position}
use Rattle.message.specs.declared.messages.Message.{Message}
use Rattle.message.specs.Messages.{msg_of}
use Rattle.in_turn.specs.Turns.{line_of}
use Rattle.in_turn.proofs.Places.{oldest_by}
use Rattle.in_turn.proofs.lines.InTurn.oldest_in.Goals as goal

pub returns : goal.returns
returns c =
    let xs = c.args.self.now.waiting.items in
    let line = c.args.line in
    oldest_by line xs c.position.result
    (IsFirst-from_position _ _ c.position.result (λ (m : Message). line_of (msg_of m) ≡ line) (λ (m : Message). line_of (msg_of m) ≡ line → ⊥) c.position.ensures.ran
    (YieldsList-from_slice xs (search rules)) (λ x q k. search rules) (λ x q k. search rules))
