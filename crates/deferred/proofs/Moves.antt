-- What each call makes of the meaning, from what it makes of the cells, the slots and the mark.
use Rattle.std.proofs.Common.{◌≡◌, ℕ, ◌+◌, ◌<◌, Bool, true, false, cond, eqb, List, length, get_or, set, replicate, is_some, not, Some, None, Ok, Err, Option, Result, sym, refl, ap, ◌∙◌, ⊎_elim, arith}
use mathlib.Core.Path.{fun_ext}
use Rattle.std.proofs.lemmas.List.{get_or_past}
use Rattle.std.proofs.lemmas.Bool.{cases_lt, cond-false, true≢false}
use Rattle.statement.specs.declared.checked.Statement.{Statement}
use Rattle.replica.specs.Meanings.{Slot, put, is_open, quiet, any_below, slot_of, current, fresh, or_else, all_stepped}
use Rattle.replica.specs.declared.faults.Fault.{Fault}
use Rattle.replica.specs.Outcomes.{TakesIn, TakesInWith, Opens, OpensWith}
use Rattle.replica.specs.Calls.{cleared, taken_in, opened, written_into, looked_at, sealed, undone, lost}
use Rattle.replica.proofs.Refused.{open_free, open_told, intake_told}
use Rattle.replica.proofs.Indices.{set_at, all_same}
use Rattle.replica.proofs.Same.{same_meaning}
use Rattle.deferred.specs.declared.transaction.Transaction.{Transaction}
use Rattle.deferred.specs.Units.{unit_of_eight}
use Rattle.deferred.specs.Shown.{shown, shown_of, with_write, with_read}
use Rattle.deferred.specs.Means.{means}

-- a slot is shown open where it is
pub open_is : (cells : List ℕ) (slots : List (Option Transaction)) (mark s : ℕ) → is_open (means cells slots mark) s ≡ is_some (get_or slots s None)
open_is cells slots mark s = by (get_or slots s None)
  where
    by : (o : Option Transaction) → is_some (shown_of o) ≡ is_some o
    by None = refl
    by (Some t) = refl

pub quiet_is : (cells : List ℕ) (slots : List (Option Transaction)) (mark : ℕ) → quiet (means cells slots mark) ≡ not (any_below 8 (λ s. is_some (get_or slots s None)))
quiet_is cells slots mark = ap (λ p. not (any_below 8 p)) (fun_ext (open_is cells slots mark))

-- an open slot is below 8
pub open_below : (slots : List (Option Transaction)) → length slots ≡ 8 → (s : ℕ) → is_some (get_or slots s None) ≡ true → s < 8
open_below slots long s o = ⊎_elim (λ h. h) (λ h. absurd (true≢false (sym o ∙ ap is_some (get_or_past slots s None (omega arith))))) (cases_lt s 8)

-- new and clear
pub clear_means : means (replicate 64 0) (replicate 8 None) 0 ≡ cleared
unfolding cleared
clear_means = same_meaning (means (replicate 64 0) (replicate 8 None) 0) cleared (all_same 64 0) refl (λ s. ap shown_of (all_same 8 None s))

module _ (cells : List ℕ) (slots : List (Option Transaction)) (mark : ℕ) where
  pub intake_means : (after : List ℕ) (sts : List Statement) (p : ℕ) → (λ c. get_or after c 0) ≡ all_stepped (λ c. get_or cells c 0) sts → means after slots (p + 1) ≡ taken_in (means cells slots mark) sts p
  unfolding taken_in
  intake_means after sts p e = same_meaning (means after slots (p + 1)) (taken_in (means cells slots mark) sts p) (λ c. ap (λ f. f c) e) refl (λ s. refl)

  -- intake, refused or not
  pub takes_means : (r : Result (Unit {0}) Fault) (sts : List Statement) (p : ℕ) (after : List ℕ) (next : ℕ)
      → TakesInWith r (any_below 8 (λ s. is_some (get_or slots s None))) sts p cells after mark next → TakesIn r sts p (means cells slots mark) (means after slots next)
  takes_means (Ok v) sts p after next (none, more, ran, is) = (
    intake_told (means cells slots mark) p _ (quiet_is cells slots mark) ∙ cond-false _ _ _ none ∙ cond-false _ _ _ more,
    tt,
    ap (means after slots) is ∙ intake_means after sts p ran,
  )
  takes_means (Err e) sts p after next (why, same, kept) =
      (intake_told (means cells slots mark) p _ (quiet_is cells slots mark) ∙ why, ap (λ x. means x slots next) same ∙ ap (means cells slots) kept)

  pub lose_means : means cells (replicate 8 None) mark ≡ lost (means cells slots mark)
  unfolding lost
  lose_means = same_meaning (means cells (replicate 8 None) mark) (lost (means cells slots mark)) (λ k. refl) refl (λ s. ap shown_of (all_same 8 None s))

  -- an open slot, and what it sees in a cell
  slot_is : (s : ℕ) (t : Transaction) → get_or slots s None ≡ Some t → slot_of (means cells slots mark) s ≡ shown t
  slot_is s t is = ap (λ o. or_else (shown_of o) fresh) is

  pub current_is : (s c : ℕ) (t : Transaction) → get_or slots s None ≡ Some t → or_else ((shown t).own c) (get_or cells c 0) ≡ current (means cells slots mark) s c
  current_is s c t is = ap (λ (x : Slot). or_else (x.own c) (get_or cells c 0)) (sym (slot_is s t is))

  -- seal, which closes the slot last
  pub seal_means : (after : List ℕ) (s p : ℕ) → ((k : ℕ) → get_or after k 0 ≡ current (means cells slots mark) s k) → undone (means after slots (p + 1)) s ≡ sealed (means cells slots mark) s p
  unfolding undone sealed
  seal_means after s p each = same_meaning (undone (means after slots (p + 1)) s) (sealed (means cells slots mark) s p) each refl (λ u. refl)

  -- the calls that write one slot
  module _ (s : ℕ) (low : s < 8) (long : length slots ≡ 8) where
    set_slot : (o : Option Transaction) (t : ℕ) → shown_of (get_or (set slots s o) t None) ≡ put (λ u. shown_of (get_or slots u None)) s (shown_of o) t
    set_slot o t = let inside : s < length slots = omega arith in ap shown_of (set_at slots s o None inside t) ∙ inner (eqb t s) o (get_or slots t None)
      where
        inner : (b : Bool) (x y : Option Transaction) → shown_of (cond b x y) ≡ cond b (shown_of x) (shown_of y)
        inner true x y = refl
        inner false x y = refl

    pub undo_means : means cells (set slots s None) mark ≡ undone (means cells slots mark) s
    unfolding undone
    undo_means = same_meaning (means cells (set slots s None) mark) (undone (means cells slots mark) s) (λ k. refl) refl (set_slot None)

    -- slot s open, as k
    kept : (w : Transaction) (k : Slot) → shown w ≡ k → (u : ℕ) → shown_of (get_or (set slots s (Some w)) u None) ≡ put (λ t. shown_of (get_or slots t None)) s (Some k) u
    kept w k e u = set_slot (Some w) u ∙ ap (λ x. put (λ t. shown_of (get_or slots t None)) s (Some x) u) e

    pub open_means : (w : Transaction) → shown w ≡ fresh → means cells (set slots s (Some w)) mark ≡ opened (means cells slots mark) s
    unfolding opened
    open_means w e = same_meaning (means cells (set slots s (Some w)) mark) (opened (means cells slots mark) s) (λ k. refl) refl (kept w fresh e)

    pub write_means : (c v : ℕ) (t w : Transaction) → get_or slots s None ≡ Some t → shown w ≡ with_write (shown t) (unit_of_eight c) c v → means cells (set slots s (Some w)) mark ≡ written_into unit_of_eight (means cells slots mark) s c v
    unfolding written_into
    write_means c v t w is e =
        let m = means cells slots mark in
        same_meaning (means cells (set slots s (Some w)) mark) (written_into unit_of_eight m s c v) (λ k. refl) refl
        (kept w (with_write (slot_of m s) (unit_of_eight c) c v) (e ∙ ap (λ x. with_write x (unit_of_eight c) c v) (sym (slot_is s t is))))

    pub look_means : (c : ℕ) (t w : Transaction) → get_or slots s None ≡ Some t → shown w ≡ with_read (shown t) (unit_of_eight c) → means cells (set slots s (Some w)) mark ≡ looked_at unit_of_eight (means cells slots mark) s c
    unfolding looked_at
    look_means c t w is e =
        let m = means cells slots mark in
        same_meaning (means cells (set slots s (Some w)) mark) (looked_at unit_of_eight m s c) (λ k. refl) refl
        (kept w (with_read (slot_of m s) (unit_of_eight c)) (e ∙ ap (λ x. with_read x (unit_of_eight c)) (sym (slot_is s t is))))

  -- open, refused or not
  pub opens_means : (s : ℕ) → length slots ≡ 8 → (w : Transaction) → shown w ≡ fresh → (r : Result (Unit {0}) Fault) (after : List (Option Transaction))
      → OpensWith w r s slots after → Opens r s (means cells slots mark) (means cells after mark)
  opens_means s long w e (Ok v) after (low, shut, is) =
      (open_free (means cells slots mark) s low (open_is cells slots mark s ∙ shut), tt, ap (λ x. means cells x mark) is ∙ open_means s low long w e)
  opens_means s long w e (Err f) after (why, same) = (open_told (means cells slots mark) s _ (open_is cells slots mark s) ∙ why, ap (λ x. means cells x mark) same)
