-- The two parts of a row as a message is ordered.
use Rattle.std.specs.Prelude.{◌≡◌, ℕ, ◌+◌, ◌<◌, List, [], ◌∷◌, ◌++◌, map, length, slice_index_or, refl}
use Rattle.std.proofs.Common.{ap}
use Rattle.std.proofs.lemmas.List.{map_more, drop_more}
use Rattle.message.specs.declared.messages.Message.{Message}
use Rattle.message.specs.declared.messages.Message.TheVariants.{Epoch}
use Rattle.message.specs.Messages.{Msg, msg_of}
use Rattle.broadcast.specs.Bags.{Moved}
use Rattle.oldest_first.specs.Parts.{log_of_front, bag_of_rest}

-- a message at which a list is read past its end
nobody : Message
nobody = Epoch (record { sender = 0; epoch = 0 })

-- one more ordered is one less that waits
pub first_moved : (n : ℕ) (xs : List Message) → n < length xs → (m : Msg) × (bag_of_rest n xs ≡ m ∷ bag_of_rest (n + 1) xs) × (log_of_front (n + 1) xs ≡ log_of_front n xs ++ m ∷ [])
first_moved n xs h = (msg_of (slice_index_or xs n nobody), ap (map msg_of) (drop_more xs n nobody h), map_more msg_of xs n nobody h)

-- the first of those that wait is one of them
pub moved : (m : Msg) (log bag log' bag' : List Msg) → bag ≡ m ∷ bag' → log' ≡ log ++ m ∷ [] → Moved log bag log' bag'
moved m log bag log' bag' out in' = record { message = m; taken = record { front = []; back = bag'; old = refl; new = out }; added = in' }
