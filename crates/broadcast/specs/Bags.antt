-- A bag of messages is a list of which no law reads the order; what offer and order do to it and to the log.
use Rattle.std.specs.Prelude.{◌≡◌, ℕ, zero, suc, ◌+◌, ◌<◌, ◌≤◌, List, [], ◌∷◌, ◌++◌, length, Some, None, Ok, Err, Option, Result}
use Rattle.std.specs.Borrow.{Bor}
use Rattle.message.specs.declared.messages.Message.{Message}
use Rattle.message.specs.Messages.{Msg, msg_of}
use Rattle.broadcast.specs.declared.faults.Full.{Full}
use Rattle.broadcast.specs.declared.faults.NothingWaits.{NothingWaits}
use Rattle.broadcast.specs.declared.faults.NotOrdered.{NotOrdered}

-- The element at a position of a list, where there is one.
abbrev pub nth : {X : Type 0} → List X → ℕ → Option X
nth [] p = None
nth (x ∷ l) zero = Some x
nth (x ∷ l) (suc p) = nth l p

-- The message that a question was answered with.
abbrev pub heard : Result (Bor Message) NotOrdered → Option Msg
heard (Ok m) = Some (msg_of m.now)
heard (Err e) = None

-- ys is xs with m put in somewhere.
pub record Inserted (m : Msg) (xs ys : List Msg) : Type 0 where
  pub front : List Msg
  pub back : List Msg
  pub old : xs ≡ front ++ back
  pub new : ys ≡ front ++ m ∷ back

-- What an offer of m does to the bag.
abbrev pub Offered : ℕ → List Msg → Msg → List Msg → List Msg → Result Unit Full → Type 0
Offered capacity log m bag bag' (Ok u) = (length log + length bag < capacity) × Inserted m bag bag'
Offered capacity log m bag bag' (Err e) = (capacity ≤ length log + length bag) × (bag' ≡ bag)

-- Some message moved from the bag to the end of the log.
pub record Moved (log bag log' bag' : List Msg) : Type 0 where
  pub message : Msg
  pub taken : Inserted message bag' bag
  pub added : log' ≡ log ++ message ∷ []

-- What an order does to the log and the bag.
abbrev pub Ordered : List Msg → List Msg → List Msg → List Msg → Result ℕ NothingWaits → Type 0
Ordered log bag log' bag' (Ok p) = (p ≡ length log) × Moved log bag log' bag'
Ordered log bag log' bag' (Err e) = (bag ≡ []) × (log' ≡ log) × (bag' ≡ bag)
