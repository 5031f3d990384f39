-- What a row of messages holds, and which message is ordered.
use Rattle.std.specs.Prelude.{◌≡◌, ℕ, List, [], ◌∷◌, ◌++◌, map, take, drop, vec_items}
use Rattle.message.specs.Messages.{Msg, msg_of}
use Rattle.oldest_first.specs.declared.rows.OldestFirst.{OldestFirst}

-- The ordered messages are the first of the row.
abbrev pub log_of : OldestFirst → List Msg
log_of b = map msg_of (take b.count (vec_items b.messages))

-- The other messages wait, the oldest first.
abbrev pub waiting_of : OldestFirst → List Msg
waiting_of b = map msg_of (drop b.count (vec_items b.messages))

-- The 128th message is served, the next is not.
abbrev pub capacity_of : OldestFirst → ℕ
capacity_of b = 128

-- The oldest of the waiting messages moved to the end of the log.
abbrev pub FirstMoved : List Msg → List Msg → List Msg → List Msg → Type 0
FirstMoved log bag log' bag' = (m : Msg) × (bag ≡ m ∷ bag') × (log' ≡ log ++ m ∷ [])
