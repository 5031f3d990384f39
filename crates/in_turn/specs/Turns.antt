-- What a broadcast in lines holds, and which message is ordered.
use Rattle.std.specs.Prelude.{◌≡◌, ℕ, ◌+◌, ◌%◌, ◌<◌, List, [], ◌∷◌, ◌++◌, map, Some, Ok, Err, vec_items, Result}
use Rattle.std.specs.List.{remove}
use Rattle.message.specs.Messages.{Msg, msg_of, msg_sender}
use Rattle.broadcast.specs.Bags.{nth}
use Rattle.broadcast.specs.declared.faults.NothingWaits.{NothingWaits}
use Rattle.in_turn.specs.declared.lines.InTurn.{InTurn}

-- The line of a message goes by its sender.
abbrev pub line_of : Msg → ℕ
line_of m = msg_sender m % 8

abbrev pub log_of : InTurn → List Msg
log_of b = map msg_of (vec_items b.ordered)

-- The waiting messages of all lines, in the order of their offers.
abbrev pub waiting_of : InTurn → List Msg
waiting_of b = map msg_of (vec_items b.waiting)

-- The line whose turn it is.
abbrev pub turn_of : InTurn → ℕ
turn_of b = b.next

-- The 128th message is served, the next is not.
abbrev pub capacity_of : InTurn → ℕ
capacity_of b = 128

-- A message of a line stands at a place of the waiting ones.
abbrev pub Stands : ℕ → List Msg → ℕ → Type 0
Stands line bag place = (m : Msg) × (nth bag place ≡ Some m) × (line_of m ≡ line)

-- No message of a line waits.
abbrev pub Empty : ℕ → List Msg → Type 0
Empty line bag = (place : ℕ) → Stands line bag place → ⊥

-- The oldest message of a line stands at a place: no message of that line stands before it.
abbrev pub OldestIn : ℕ → List Msg → ℕ → Type 0
OldestIn line bag place = Stands line bag place × ((k : ℕ) → k < place → Stands line bag k → ⊥)

-- The oldest message of the first line that is not empty, from the line whose turn it is, stands at a place.
abbrev pub Chosen : ℕ → List Msg → ℕ → Type 0
Chosen turn bag place = (steps : ℕ) × (steps < 8) × OldestIn ((turn + steps) % 8) bag place × ((j : ℕ) → j < steps → Empty ((turn + j) % 8) bag)

-- The chosen message went from the waiting ones to the end of the log, and the line after its own is next.
pub record Turned (b b' : InTurn) : Type 0 where
  pub place : ℕ
  pub message : Msg
  pub chosen : Chosen (turn_of b) (waiting_of b) place
  pub there : nth (waiting_of b) place ≡ Some message
  pub left : waiting_of b' ≡ remove (waiting_of b) place
  pub added : log_of b' ≡ log_of b ++ message ∷ []
  pub turn : turn_of b' ≡ (line_of message + 1) % 8

-- An order takes a turn, or leaves it where nothing waits.
abbrev pub Taken : InTurn → InTurn → Result ℕ NothingWaits → Type 0
Taken b b' (Ok p) = Turned b b'
Taken b b' (Err e) = turn_of b' ≡ turn_of b
