-- What each call leaves of the state means what the call is to leave.
use Rattle.std.proofs.Common.{◌≡◌, ℕ, ◌+◌, ◌<◌, Bool, true, false, cond, not, ◌&&◌, ◌||◌, eqb, ◌≢◌, List, length, get_or, set, replicate, is_some, Some, None, Ok, Err, Option, Result, sym, refl, ap, ◌∙◌, subst, ⊎_elim, arith}
use mathlib.Core.Path.{fun_ext}
use Rattle.std.specs.Option.{option_map}
use Rattle.std.proofs.lemmas.List.{get_or-set_same, get_or-set_other}
use Rattle.std.proofs.lemmas.Bool.{cases_eq, eq-eqb, ne_eqb, true≢false, cond-true, cond-false}
use Rattle.statement.specs.declared.checked.Statement.{Statement}
use Rattle.replica.specs.Meanings.{Meaning, Slot, put, any_below, is_open, slot_of, current, all_stepped, excludes, busy, fresh, or_else}
use Rattle.replica.specs.declared.faults.Fault.{Fault}
use Rattle.replica.specs.Outcomes.{TakesIn, TakesInWith, Opens, OpensWith}
use Rattle.replica.specs.Calls.{taken_in, opened, written_into, looked_at, sealed, undone, lost}
use Rattle.replica.proofs.Refused.{open_free, open_told, intake_told}
use Rattle.replica.proofs.Indices.{any_none, all_same}
use Rattle.replica.proofs.Same.{same_meaning, same_slot}
use Rattle.in_place.specs.declared.former.Former.{Former}
use Rattle.in_place.specs.declared.read_set.ReadSet.{ReadSet}
use Rattle.in_place.specs.Reads.{holds}
use Rattle.in_place.specs.declared.state.InPlace.{InPlace}
use Rattle.in_place.specs.Parts.{means, held_by_open, committed, written_by, own_of, shown_slot, released, restored}
use Rattle.in_place.specs.State.{meaning_of, same_unit}
use Rattle.in_place.proofs.Means.{Held, open_is, quiet_is, none_is, open_below, all_closed, none_held}
use Rattle.in_place.proofs.Closing.{sealed_cell, undone_cell, other_writes, other_own, other_kept}

-- slot t, open or not
abbrev shown : List ℕ → List (Option Former) → List (Option ReadSet) → ℕ → Option Slot
shown cells formers slots t = option_map (shown_slot cells formers t) (get_or slots t None)

-- the slots differ at s alone
slots_at : (f g : ℕ → Option Slot) (s : ℕ) (x : Option Slot) → f s ≡ x → ((t : ℕ) → t ≢ s → f t ≡ g t) → (t : ℕ) → f t ≡ put g s x t
slots_at f g s x here others t =
    ⊎_elim
    (λ (e : t ≡ s). ap f e ∙ here ∙ sym (cond-true (eqb t s) x (g t) (eq-eqb t s e)))
    (λ (n : t ≡ s → ⊥). others t n ∙ sym (cond-false (eqb t s) x (g t) (ne_eqb t s n)))
    (cases_eq t s)

-- a slot shows the same from other cells and formers, where it does so while it is open
slot_kept : (f g : ReadSet → Slot) (o : Option ReadSet) → ((reads : ReadSet) → o ≡ Some reads → f reads ≡ g reads) → option_map f o ≡ option_map g o
slot_kept f g None same = refl
slot_kept f g (Some reads) same = ap Some (same reads refl)

-- what an open slot holds
pub open_holds : (o : Option ReadSet) → is_some o ≡ true → (reads : ReadSet) × (o ≡ Some reads)
open_holds None h = absurd (true≢false (sym h))
open_holds (Some reads) h = (reads, refl)

-- a closed slot wrote no cell
not_closed : (s : ℕ) (slots : List (Option ReadSet)) → get_or slots s None ≡ None → (o : Option Former) → held_by_open slots o ≡ true → written_by s o ≡ false
not_closed s slots shut None h = refl
not_closed s slots shut (Some f) h = ne_eqb f.slot s (λ e. true≢false (sym h ∙ ap (λ t. is_some (get_or slots t None)) e ∙ ap is_some shut))

-- a slot that did not write the cell has no value of its own there
own_none : (s : ℕ) (o : Option Former) (v : ℕ) → written_by s o ≡ false → own_of s o v ≡ None
own_none s None v h = refl
own_none s (Some f) v h = cond-false (eqb f.slot s) (Some v) None h

-- what holds of the value that is set and of the others holds at each place
at_place : {X : Type 0} (P : ℕ → X → Type 0) (xs : List X) (i : ℕ) (v d : X) → i < length xs → P i v → ((k : ℕ) → k ≢ i → P k (get_or xs k d)) → (k : ℕ) → P k (get_or (set xs i v) k d)
at_place P xs i v d h here others k =
    ⊎_elim
    (λ (e : k ≡ i). subst (λ j. P j (get_or (set xs i v) j d)) (sym e) (subst (P i) (sym (get_or-set_same xs i v d h)) here))
    (λ (n : k ≡ i → ⊥). subst (P k) (sym (get_or-set_other xs i k v d n)) (others k n))
    (cases_eq k i)

-- a slot that is open keeps every writer open
held_more : (slots : List (Option ReadSet)) (s : ℕ) (reads : ReadSet) → s < length slots → (o : Option Former) → held_by_open slots o ≡ true → held_by_open (set slots s (Some reads)) o ≡ true
held_more slots s reads inside None h = refl
held_more slots s reads inside (Some f) h = ⊎_elim
    (λ (e : f.slot ≡ s). ap (λ t. is_some (get_or (set slots s (Some reads)) t None)) e ∙ ap is_some (get_or-set_same slots s (Some reads) None inside))
    (λ (n : f.slot ≡ s → ⊥). ap is_some (get_or-set_other slots s f.slot (Some reads) None n) ∙ h)
    (cases_eq f.slot s)

pub open_held : (formers : List (Option Former)) (slots : List (Option ReadSet)) (s : ℕ) (reads : ReadSet) → s < length slots → Held formers slots → Held formers (set slots s (Some reads))
open_held formers slots s reads inside held c = held_more slots s reads inside (get_or formers c None) (held c)

pub opens_held : (formers : List (Option Former)) (slots : List (Option ReadSet)) (s : ℕ) (row : ReadSet) → length slots ≡ 8 → Held formers slots
    → (r : Result (Unit {0}) Fault) (after : List (Option ReadSet)) → OpensWith row r s slots after → Held formers after
opens_held formers slots s row long held (Ok v) after (low, shut, is) = let inside : s < length slots = omega arith in rw is (open_held formers slots s row inside held)
opens_held formers slots s row long held (Err e) after (why, same) = rw same held

pub intake_means : (d : InPlace) (after : List ℕ) (p : ℕ) (sts : List Statement) → length d.slots ≡ 8 → any_below 8 (λ s. is_some (get_or d.slots s None)) ≡ false → (λ c. get_or after c 0) ≡ all_stepped (λ c. get_or d.cells c 0) sts → means after d.formers d.slots (p + 1) ≡ taken_in (meaning_of d) sts p
unfolding taken_in
intake_means d after p sts long none ran =
    let formers = d.formers in
    let cells = d.cells in
    let closed = all_closed d.slots long none in
    let bare : (c : ℕ) → get_or formers c None ≡ None = λ c. none_held d.slots closed (get_or formers c None) (d.held c) in
    let before : (λ c. committed (get_or formers c None) (get_or cells c 0)) ≡ (λ c. get_or cells c 0) = fun_ext (λ c. ap (λ o. committed o (get_or cells c 0)) (bare c)) in
    let whole : (λ c. committed (get_or formers c None) (get_or after c 0)) ≡ all_stepped (λ c. committed (get_or formers c None) (get_or cells c 0)) sts = fun_ext (λ c. ap (λ o. committed o (get_or after c 0)) (bare c)) ∙ ran ∙ ap (λ f. all_stepped f sts) (sym before) in
    same_meaning (means after formers d.slots (p + 1)) (taken_in (meaning_of d) sts p)
    (λ c. ap (λ f. f c) whole)
    refl
    (λ s. ap (option_map (shown_slot after formers s)) (closed s) ∙ sym (ap (option_map (shown_slot cells formers s)) (closed s)))

-- intake, refused or not
pub takes_means : (d : InPlace) → length d.slots ≡ 8 → (r : Result (Unit {0}) Fault) (sts : List Statement) (p : ℕ) (after : List ℕ) (next : ℕ)
    → TakesInWith r (any_below 8 (λ s. is_some (get_or d.slots s None))) sts p d.cells after d.mark next → TakesIn r sts p (meaning_of d) (means after d.formers d.slots next)
takes_means d long (Ok v) sts p after next (none, more, ran, is) = (
  intake_told (meaning_of d) p _ (quiet_is d) ∙ cond-false _ _ _ none ∙ cond-false _ _ _ more,
  tt,
  ap (means after d.formers d.slots) is ∙ intake_means d after p sts long none ran,
)
takes_means d long (Err e) sts p after next (why, same, mark) =
    (intake_told (meaning_of d) p _ (quiet_is d) ∙ why, ap (λ x. means x d.formers d.slots next) same ∙ ap (means d.cells d.formers d.slots) mark)

module _ (d : InPlace) (long : length d.slots ≡ 8) (s : ℕ) where
  abbrev cells : List ℕ
  cells = d.cells

  abbrev formers : List (Option Former)
  formers = d.formers

  abbrev slots : List (Option ReadSet)
  slots = d.slots

  abbrev m : Meaning
  m = meaning_of d

  pub open_means : s < 8 → get_or slots s None ≡ None → (row : ReadSet) → ((u : ℕ) → holds row u ≡ false) → means cells formers (set slots s (Some row)) d.mark ≡ opened m s
  unfolding opened
  open_means low shut row empty =
      let inside : s < length slots = omega arith in
      let none : (u : ℕ) → written_by s (get_or formers u None) ≡ false = λ u. not_closed s slots shut (get_or formers u None) (d.held u) in
      same_meaning (means cells formers (set slots s (Some row)) d.mark) (opened m s) (λ c. refl) refl
      (slots_at (shown cells formers (set slots s (Some row))) (shown cells formers slots) s (Some fresh)
      (ap (option_map (shown_slot cells formers s)) (get_or-set_same slots s (Some row) None inside)
      ∙ ap Some (same_slot (shown_slot cells formers s row) fresh empty none (λ c. own_none s (get_or formers c None) (get_or cells c 0) (none c))))
      (λ t n. ap (option_map (shown_slot cells formers t)) (get_or-set_other slots s t (Some row) None n)))

  pub opens_means : (row : ReadSet) → ((u : ℕ) → holds row u ≡ false) → (r : Result (Unit {0}) Fault) (after : List (Option ReadSet))
      → OpensWith row r s slots after → Opens r s m (means cells formers after d.mark)
  opens_means row empty (Ok v) after (low, shut, is) =
      (open_free m s low (open_is d s ∙ shut), tt, ap (λ x. means cells formers x d.mark) is ∙ open_means low (none_is _ shut) row empty)
  opens_means row empty (Err e) after (why, same) = (open_told m s _ (open_is d s) ∙ why, ap (λ x. means cells formers x d.mark) same)

  -- an open slot is as it is shown
  slot_is : (t : ℕ) (reads : ReadSet) → get_or slots t None ≡ Some reads → slot_of m t ≡ shown_slot cells formers t reads
  slot_is t reads is = ap (λ o. or_else (option_map (shown_slot cells formers t) o) fresh) is

  -- while slot s is not busy at c, no other open slot wrote c
  free_writes : (c : ℕ) (w : Bool) → busy m s c w ≡ false → (t : ℕ) → t ≢ s → is_some (get_or slots t None) ≡ true → written_by t (get_or formers c None) ≡ false
  free_writes c w free t n o =
      let held = open_holds (get_or slots t None) o in
      let here : excludes m s c w t ≡ false = any_none 8 (excludes m s c w) free t (open_below slots long t o) in
      let plain : (not (eqb t s) && is_open m t && (written_by t (get_or formers c None) || (w && (slot_of m t).reads c))) ≡ false = ap (λ (k : Slot). not (eqb t s) && is_open m t && (k.writes c || (w && (slot_of m t).reads c))) (sym (slot_is t held.0 held.1)) ∙ here in
      first_false (not (eqb t s)) (is_open m t) (written_by t (get_or formers c None)) (w && (slot_of m t).reads c) (ap not (ne_eqb t s n)) (open_is d t ∙ o) plain
    where
      first_false : (a b x y : Bool) → a ≡ true → b ≡ true → (a && b && (x || y)) ≡ false → x ≡ false
      first_false true true true y p q r = r
      first_false true true false y p q r = refl
      first_false true false x y p q r = absurd (true≢false (sym q))
      first_false false b x y p q r = absurd (true≢false (sym p))

  module _ (reads : ReadSet) (is : get_or slots s None ≡ Some reads) where
    opens : is_some (get_or slots s None) ≡ true
    opens = ap is_some is

    -- an open slot exists
    inside : s < length slots
    inside = let low = open_below slots long s opens in omega arith

    -- what slot s sees at c is what stands there
    pub current_is : (c : ℕ) (w : Bool) → busy m s c w ≡ false → current m s c ≡ get_or cells c 0
    current_is c w free =
        ap (λ (k : Slot). or_else (k.own c) (m.cells c)) (slot_is s reads is) ∙ stands (get_or formers c None) (d.held c) (free_writes c w free)
      where
        stands : (x : Option Former) → held_by_open slots x ≡ true → ((t : ℕ) → t ≢ s → is_some (get_or slots t None) ≡ true → written_by t x ≡ false) → or_else (own_of s x (get_or cells c 0)) (committed x (get_or cells c 0)) ≡ get_or cells c 0
        stands None h f = refl
        stands (Some x) h f =
            ⊎_elim
            (λ (e : x.slot ≡ s). ap (λ b. or_else (cond b (Some (get_or cells c 0)) None) x.value) (eq-eqb x.slot s e))
            (λ (n : x.slot ≡ s → ⊥). absurd (true≢false (sym (eq-eqb x.slot x.slot refl) ∙ f x.slot n h)))
            (cases_eq x.slot s)

    pub write_means : length cells ≡ 64 → length formers ≡ 64 → (c v : ℕ) → c < 64 → busy m s c true ≡ false → means (set cells c v) (set formers c (Some (record { slot = s; value = committed (get_or formers c None) (get_or cells c 0) }))) slots d.mark ≡ written_into same_unit m s c v
    unfolding written_into
    write_means tall deep c v low free =
        let f : Option Former = Some (record { slot = s; value = committed (get_or formers c None) (get_or cells c 0) }) in
        let cells' = set cells c v in
        let formers' = set formers c f in
        let in_cells : c < length cells = omega arith in
        let in_formers : c < length formers = omega arith in
        let new_cell : (k : ℕ) → k ≢ c → get_or cells' k 0 ≡ get_or cells k 0 = λ k n. get_or-set_other cells c k v 0 n in
        let at_cell = get_or-set_same cells c v 0 in_cells in
        let target : Slot → Option Slot = λ k. Some (record { reads = k.reads; writes = put k.writes c true; own = put k.own c (Some v) }) in
        let q = shown_slot cells formers s reads in
        same_meaning (means cells' formers' slots d.mark) (written_into same_unit m s c v)
        (at_place (λ k x. committed x (get_or cells' k 0) ≡ committed (get_or formers k None) (get_or cells k 0)) formers c f None in_formers refl (λ k n. ap (committed (get_or formers k None)) (new_cell k n)))
        refl
        (slots_at (shown cells' formers' slots) (shown cells formers slots) s (target (slot_of m s))
        (ap (option_map (shown_slot cells' formers' s)) is
        ∙ ap Some (same_slot (shown_slot cells' formers' s reads) (record { reads = q.reads; writes = put q.writes c true; own = put q.own c (Some v) })
        (λ u. refl)
        (at_place (λ k x. written_by s x ≡ put q.writes c true k) formers c f None in_formers
        (eq-eqb s s refl ∙ sym (cond-true (eqb c c) true (q.writes c) (eq-eqb c c refl)))
        (λ k n. sym (cond-false (eqb k c) true (q.writes k) (ne_eqb k c n))))
        (at_place (λ k x. own_of s x (get_or cells' k 0) ≡ put q.own c (Some v) k) formers c f None in_formers
        (cond-true (eqb s s) (Some (get_or cells' c 0)) None (eq-eqb s s refl) ∙ ap Some at_cell ∙ sym (cond-true (eqb c c) (Some v) (q.own c) (eq-eqb c c refl)))
        (λ k n. ap (own_of s (get_or formers k None)) (new_cell k n) ∙ sym (cond-false (eqb k c) (Some v) (q.own k) (ne_eqb k c n)))))
        ∙ ap target (sym (slot_is s reads is)))
        (λ t n. slot_kept (shown_slot cells' formers' t) (shown_slot cells formers t) (get_or slots t None) (λ r at.
        let none = free_writes c true free t n (ap is_some at) in
        let apart : eqb s t ≡ false = ne_eqb s t (λ e. n (sym e)) in
        same_slot (shown_slot cells' formers' t r) (shown_slot cells formers t r)
        (λ u. refl)
        (at_place (λ k x. written_by t x ≡ written_by t (get_or formers k None)) formers c f None in_formers (apart ∙ sym none) (λ k d. refl))
        (at_place (λ k x. own_of t x (get_or cells' k 0) ≡ own_of t (get_or formers k None) (get_or cells k 0)) formers c f None in_formers
        (cond-false (eqb s t) (Some (get_or cells' c 0)) None apart ∙ sym (own_none t (get_or formers c None) (get_or cells c 0) none))
        (λ k d. ap (own_of t (get_or formers k None)) (new_cell k d))))))

    pub write_held : length formers ≡ 64 → (c x : ℕ) → c < 64 → Held (set formers c (Some (record { slot = s; value = x }))) slots
    write_held deep c x low =
        let in_formers : c < length formers = omega arith in
        at_place (λ k y. held_by_open slots y ≡ true) formers c (Some (record { slot = s; value = x })) None in_formers opens (λ k n. d.held k)

    pub look_means : (c : ℕ) (row : ReadSet) → ((u : ℕ) → holds row u ≡ put (holds reads) c true u) → means cells formers (set slots s (Some row)) d.mark ≡ looked_at same_unit m s c
    unfolding looked_at
    look_means c row one_more =
        let slots' = set slots s (Some row) in
        let q = shown_slot cells formers s reads in
        let target : Slot → Option Slot = λ k. Some (record { reads = put k.reads c true; writes = k.writes; own = k.own }) in
        same_meaning (means cells formers slots' d.mark) (looked_at same_unit m s c) (λ k. refl) refl
        (slots_at (shown cells formers slots') (shown cells formers slots) s (target (slot_of m s))
        (ap (option_map (shown_slot cells formers s)) (get_or-set_same slots s (Some row) None inside)
        ∙ ap Some (same_slot (shown_slot cells formers s row) (record { reads = put q.reads c true; writes = q.writes; own = q.own }) one_more (λ u. refl) (λ k. refl))
        ∙ ap target (sym (slot_is s reads is)))
        (λ t n. ap (option_map (shown_slot cells formers t)) (get_or-set_other slots s t (Some row) None n)))

    -- closing slot s, with the formers released and the cells as they are or restored
    close_slots : (cells' : List ℕ) (formers' : List (Option Former)) → ((k : ℕ) → get_or formers' k None ≡ released s (get_or formers k None)) → ((t : ℕ) → t ≢ s → (k : ℕ) → own_of t (released s (get_or formers k None)) (get_or cells' k 0) ≡ own_of t (get_or formers k None) (get_or cells k 0)) → (t : ℕ) → shown cells' formers' (set slots s None) t ≡ put (shown cells formers slots) s None t
    close_slots cells' formers' each own =
        let slots' = set slots s None in
        slots_at (shown cells' formers' slots') (shown cells formers slots) s None
        (ap (option_map (shown_slot cells' formers' s)) (get_or-set_same slots s None None inside))
        (λ t n. ap (option_map (shown_slot cells' formers' t)) (get_or-set_other slots s t None None n)
        ∙ slot_kept (shown_slot cells' formers' t) (shown_slot cells formers t) (get_or slots t None) (λ r at. same_slot (shown_slot cells' formers' t r) (shown_slot cells formers t r)
        (λ u. refl)
        (λ u. ap (written_by t) (each u) ∙ other_writes s t n (get_or formers u None))
        (λ k. ap (λ o. own_of t o (get_or cells' k 0)) (each k) ∙ own t n k)))

    pub seal_means : (formers' : List (Option Former)) (p : ℕ) → ((k : ℕ) → get_or formers' k None ≡ released s (get_or formers k None)) → means cells formers' (set slots s None) (p + 1) ≡ sealed m s p
    unfolding sealed
    seal_means formers' p each =
        same_meaning (means cells formers' (set slots s None) (p + 1)) (sealed m s p)
        (λ k. ap (λ x. committed x (get_or cells k 0)) (each k) ∙ sealed_cell s (get_or formers k None) (get_or cells k 0) ∙ sym (ap (λ (q : Slot). or_else (q.own k) (m.cells k)) (slot_is s reads is)))
        refl
        (close_slots cells formers' each (λ t n k. other_kept s t n (get_or formers k None) (get_or cells k 0)))

    pub undo_means : (cells' : List ℕ) (formers' : List (Option Former)) → ((k : ℕ) → get_or cells' k 0 ≡ restored s (get_or formers k None) (get_or cells k 0)) → ((k : ℕ) → get_or formers' k None ≡ released s (get_or formers k None)) → means cells' formers' (set slots s None) d.mark ≡ undone m s
    unfolding undone
    undo_means cells' formers' back each =
        same_meaning (means cells' formers' (set slots s None) d.mark) (undone m s)
        (λ k. ap (λ x. committed x (get_or cells' k 0)) (each k) ∙ ap (committed (released s (get_or formers k None))) (back k) ∙ undone_cell s (get_or formers k None) (get_or cells k 0))
        refl
        (close_slots cells' formers' each (λ t n k. ap (own_of t (released s (get_or formers k None))) (back k) ∙ other_own s t n (get_or formers k None) (get_or cells k 0)))

pub lose_means : (d : InPlace) (cells' : List ℕ) → ((k : ℕ) → get_or cells' k 0 ≡ committed (get_or d.formers k None) (get_or d.cells k 0)) → means cells' (replicate 64 None) (replicate 8 None) d.mark ≡ lost (meaning_of d)
unfolding lost
lose_means d cells' back =
    same_meaning (means cells' (replicate 64 None) (replicate 8 None) d.mark) (lost (meaning_of d))
    (λ k. ap (λ x. committed x (get_or cells' k 0)) (all_same 64 None k) ∙ back k)
    refl
    (λ t. ap (option_map (shown_slot cells' (replicate 64 None) t)) (all_same 8 None t))
