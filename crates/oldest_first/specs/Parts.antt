-- The two parts of a row: the ordered messages, and the waiting ones.
use Rattle.std.specs.Prelude.{◌≡◌, ℕ, ◌-◌, ◌≤◌, List, map, length, take, drop}
use Rattle.std.proofs.Common.{◌∙◌, arith, length-take, length-drop}
use Rattle.std.proofs.lemmas.List.{length-map}
use Rattle.message.specs.declared.messages.Message.{Message}
use Rattle.message.specs.Messages.{Msg, msg_of}

-- what the first n of a row mean
abbrev pub log_of_front : ℕ → List Message → List Msg
log_of_front n xs = map msg_of (take n xs)

-- what the others mean
abbrev pub bag_of_rest : ℕ → List Message → List Msg
bag_of_rest n xs = map msg_of (drop n xs)

-- the ordered part is as long as it is counted
pub log_length : (n : ℕ) (xs : List Message) → n ≤ length xs → length (log_of_front n xs) ≡ n
log_length n xs h = length-map (take n xs) msg_of ∙ simp length-take (omega arith)

-- the waiting part has the others
pub bag_length : (n : ℕ) (xs : List Message) → length (bag_of_rest n xs) ≡ length xs - n
bag_length n xs = length-map (drop n xs) msg_of ∙ simp length-drop
