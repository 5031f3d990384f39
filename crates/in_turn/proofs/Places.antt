-- Where the messages of a line stand among the waiting ones, and what is left when one of them is taken.
use Rattle.std.proofs.Common.{◌≡◌, ℕ, zero, suc, ◌+◌, ◌-◌, ◌%◌, ◌<◌, ◌≤◌, List, [], ◌∷◌, ◌++◌, map, length, get_or, take, drop, Some, None, Option, MatchOption, sym, refl, ap, ◌∙◌, ⊎_elim, arith}
use mathlib.Core.List.{map-append}
use Rattle.std.proofs.lemmas.List.{take-map, drop-map, map_push, get_or_default, length-map}
use Rattle.std.proofs.lemmas.Bool.{cases_lt}
use Rattle.std.specs.List.{remove, AllWithin, HoldsAt}
use Rattle.message.specs.declared.messages.Message.{Message}
use Rattle.message.specs.declared.messages.Message.TheVariants.{Epoch}
use Rattle.message.specs.Messages.{Msg, msg_of}
use Rattle.broadcast.specs.Bags.{nth, Moved}
use Rattle.broadcast.proofs.Positions.{nth_within}
use Rattle.in_turn.specs.Turns.{line_of, Stands, Empty, OldestIn, Chosen}

-- a message that was read stands where it was read
pub read_at : (items xs : List Message) (i : ℕ) (m : Message) → items ≡ xs → i < length items → m ≡ get_or items i m → nth (map msg_of xs) i ≡ Some (msg_of m)
read_at items xs i m e h r = ap (λ ys. nth (map msg_of ys) i) (sym e) ∙ sym (nth_within msg_of items i m h r)

-- a place with a message is within the list
pub within : (bag : List Msg) (i : ℕ) (m : Msg) → nth bag i ≡ Some m → i < length bag
within [] i m e = cc
within (x ∷ bag) zero m e = omega arith
within (x ∷ bag) (suc i) m e = let h = within bag i m e in omega arith

-- a message at which a list is read past its end
nobody : Message
nobody = Epoch (record { sender = 0; epoch = 0 })

module _ (line : ℕ) (xs : List Message) where
  abbrev Yes : Message → Type 0
  Yes m = line_of (msg_of m) ≡ line

  abbrev No : Message → Type 0
  No m = line_of (msg_of m) ≡ line → ⊥

  here : (k : ℕ) → k < length xs → nth (map msg_of xs) k ≡ Some (msg_of (get_or xs k nobody))
  here k h = sym (nth_within msg_of xs k (get_or xs k nobody) h (get_or_default xs k nobody (get_or xs k nobody) h))

  -- no message of the line stands where the search has been
  passed : (n : ℕ) → AllWithin No xs 0 n → (k : ℕ) → k < n → k < length xs → Stands line (map msg_of xs) k → ⊥
  passed n none k h l s =
      let at = here k l in
      let there = s.1 in
      let same : msg_of (get_or xs k nobody) ≡ s.0 = cc in
      none k nobody (omega arith) h (ap line_of same ∙ s.2)

  pub oldest_by : (r : Option ℕ) → MatchOption r (AllWithin No xs 0 (length xs)) (λ i. (i < length xs) × HoldsAt Yes xs i × AllWithin No xs 0 i)
      → MatchOption r (Empty line (map msg_of xs)) (OldestIn line (map msg_of xs))
  oldest_by None none = λ k s.
      let l : k < length xs = let w = within (map msg_of xs) k s.0 s.1 in omega (arith, length-map xs msg_of) in
      passed (length xs) none k l l s
  oldest_by (Some i) found =
      let l : i < length xs = found.0 in
      ((msg_of (get_or xs i nobody), here i l, found.1 nobody), λ k h. passed i found.2 k h (omega arith))

-- each line is reached in fewer than eight steps
reached : (next line : ℕ) → next < 8 → line < 8 → (j : ℕ) × (j < 8) × (line ≡ (next + j) % 8)
reached next line h l =
    ⊎_elim
    (λ (lt : line < next). (line + 8 - next, omega arith, omega arith))
    (λ (ge : next ≤ line). (line - next, omega arith, omega arith))
    (cases_lt line next)

-- where all lines are empty, nothing waits
pub none_waits : (next : ℕ) (bag : List Msg) → next < 8 → ((j : ℕ) → j < 8 → Empty ((next + j) % 8) bag) → bag ≡ []
none_waits next [] h f = refl
none_waits next (m ∷ ms) h f =
    let j = reached next (line_of m) h (omega arith) in
    absurd (f j.0 j.1 0 (m, refl, j.2))

-- the line that a search from the line whose turn it is comes to
pub chosen_by : (next : ℕ) (bag : List Msg) → next < 8 → (r : Option ℕ)
    → MatchOption r ((k : ℕ) → k < 8 → Empty ((next + k) % 8) bag) (λ y. (i : ℕ) × (i < 8) × OldestIn ((next + i) % 8) bag y × ((k : ℕ) → k < i → Empty ((next + k) % 8) bag))
    → MatchOption r (bag ≡ []) (Chosen next bag)
chosen_by next bag low None none = none_waits next bag low none
chosen_by next bag low (Some y) found = found

-- a message that stands at a place parts the list in two
parted : (bag : List Msg) (i : ℕ) (m : Msg) → nth bag i ≡ Some m → bag ≡ take i bag ++ m ∷ drop (suc i) bag
parted [] i m e = cc
parted (x ∷ bag) zero m e = let same : x ≡ m = cc in ap {B = List Msg} (λ y. y ∷ bag) same
parted (x ∷ bag) (suc i) m e = ap {B = List Msg} (λ t. x ∷ t) (parted bag i m e)

-- the message at a place taken out and put at the end of the log
pub moved_from : (log bag log' bag' : List Msg) (i : ℕ) (m : Msg) → nth bag i ≡ Some m → bag' ≡ remove bag i → log' ≡ log ++ m ∷ [] → Moved log bag log' bag'
moved_from log bag log' bag' i m e out in' =
    record { message = m; taken = record { front = take i bag; back = drop (suc i) bag; old = out; new = parted bag i m e }; added = in' }

-- the messages that are left mean what is left of what they mean
pub left_shown : (xs ys : List Message) (i : ℕ) → ys ≡ remove xs i → map msg_of ys ≡ remove (map msg_of xs) i
left_shown xs ys i e = ap (map msg_of) e ∙ simp (map-append, take-map, drop-map)

-- one more message means one more in what they mean
pub longer_shown : (m : Message) (xs ys : List Message) → ys ≡ xs ++ m ∷ [] → map msg_of ys ≡ map msg_of xs ++ msg_of m ∷ []
longer_shown m xs ys e = ap (map msg_of) e ∙ map_push msg_of xs m
