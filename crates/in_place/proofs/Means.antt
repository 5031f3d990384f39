-- The meaning of the parts: which slots are open, and when nothing is held.
use Rattle.std.proofs.Common.{◌≡◌, ℕ, ◌<◌, true, false, not, List, length, get_or, replicate, is_some, Some, None, Option, sym, refl, ap, ◌∙◌, ⊎_elim, arith}
use mathlib.Core.Path.{fun_ext}
use Rattle.std.specs.Option.{option_map}
use Rattle.std.proofs.lemmas.List.{get_or_past}
use Rattle.std.proofs.lemmas.Bool.{cases_lt, true≢false}
use Rattle.replica.specs.Meanings.{any_below, quiet, is_open}
use Rattle.replica.specs.Calls.{cleared}
use Rattle.replica.proofs.Indices.{any_none, all_same}
use Rattle.replica.proofs.Same.{same_meaning}
use Rattle.in_place.specs.declared.former.Former.{Former}
use Rattle.in_place.specs.declared.read_set.ReadSet.{ReadSet}
use Rattle.in_place.specs.declared.state.InPlace.{InPlace}
use Rattle.in_place.specs.Parts.{means, held_by_open, committed, shown_slot}
use Rattle.in_place.specs.State.{meaning_of}

abbrev pub Held : List (Option Former) → List (Option ReadSet) → Type 0
Held formers slots = (c : ℕ) → held_by_open slots (get_or formers c None) ≡ true

some_map : {X Y : Type 0} (f : X → Y) (o : Option X) → is_some (option_map f o) ≡ is_some o
some_map f None = refl
some_map f (Some x) = refl

pub none_is : {X : Type 0} (o : Option X) → is_some o ≡ false → o ≡ None
none_is None h = refl
none_is (Some x) h = absurd (true≢false h)

pub open_is : (d : InPlace) (s : ℕ) → is_open (meaning_of d) s ≡ is_some (get_or d.slots s None)
open_is d s = some_map (shown_slot d.cells d.formers s) (get_or d.slots s None)

pub quiet_is : (d : InPlace) → quiet (meaning_of d) ≡ not (any_below 8 (λ s. is_some (get_or d.slots s None)))
quiet_is d = ap (λ p. not (any_below 8 p)) (fun_ext (open_is d))

-- an open slot is below 8
pub open_below : (slots : List (Option ReadSet)) → length slots ≡ 8 → (t : ℕ) → is_some (get_or slots t None) ≡ true → t < 8
open_below slots long t o = ⊎_elim (λ h. h) (λ h. absurd (true≢false (sym o ∙ ap is_some (get_or_past slots t None (omega arith))))) (cases_lt t 8)

pub all_closed : (slots : List (Option ReadSet)) → length slots ≡ 8 → any_below 8 (λ s. is_some (get_or slots s None)) ≡ false → (s : ℕ) → get_or slots s None ≡ None
all_closed slots long none s =
    ⊎_elim (λ h. none_is (get_or slots s None) (any_none 8 (λ t. is_some (get_or slots t None)) none s h)) (λ h. get_or_past slots s None (omega arith)) (cases_lt s 8)

-- while every slot is closed, no cell has a former value
pub none_held : (slots : List (Option ReadSet)) → ((s : ℕ) → get_or slots s None ≡ None) → (o : Option Former) → held_by_open slots o ≡ true → o ≡ None
none_held slots closed None h = refl
none_held slots closed (Some f) h = absurd (true≢false (sym h ∙ ap is_some (closed f.slot)))

-- cells with no former values, whichever slots are open
pub bare_held : (slots : List (Option ReadSet)) → Held (replicate 64 None) slots
bare_held slots c = ap (held_by_open slots) (all_same 64 None c)

pub clear_means : means (replicate 64 0) (replicate 64 None) (replicate 8 None) 0 ≡ cleared
unfolding cleared
clear_means =
    same_meaning (means (replicate 64 0) (replicate 64 None) (replicate 8 None) 0) cleared
    (λ k. ap (λ o. committed o (get_or (replicate 64 0) k 0)) (all_same 64 None k) ∙ all_same 64 0 k)
    refl
    (λ s. ap (option_map (shown_slot (replicate 64 0) (replicate 64 None) s)) (all_same 8 None s))
