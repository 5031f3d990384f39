-- A transaction in a slot: its runs one after another, and what a slot that is undone leaves.
use Rattle.std.proofs.Common.{◌≡◌, ℕ, ◌+◌, ◌<◌, Bool, true, false, cond, eqb, ltb, List, length, get_or, drop, is_some, is_err, Some, None, Ok, Err, Option, Result, sym, refl, ap, ◌∙◌, ⊎_elim}
use Rattle.std.proofs.lemmas.List.{drop_more}
use Rattle.std.proofs.lemmas.Bool.{cases_eq, eq-eqb, ne_eqb, cond-true, cond-false, true≢false}
use Rattle.statement.specs.declared.checked.Statement.{Statement}
use Rattle.statement.specs.Operations.{writes_cell, changed}
use Rattle.replica.specs.declared.faults.Fault.{Fault}
use Rattle.replica.specs.declared.faults.Fault.TheVariants.{NoSlot, SlotOpen, SlotClosed}
use Rattle.replica.specs.Meanings.{Meaning, Slot, put, fresh, is_open, current}
use Rattle.replica.specs.Calls.{opened, written_into, looked_at, ran, undone}
use Rattle.replica.specs.Refusals.{open_refusal, run_refusal, undo_refusal}
use Rattle.replica.specs.Transactions.{first_refusal, ran_all, finish_refusal, Finishes, Transacts}
use Rattle.replica.proofs.Same.{same_meaning}

-- a place that is written twice holds what was written last
put_put : {X : Type 0} (f : ℕ → X) (s : ℕ) (x y : X) (t : ℕ) → put (put f s x) s y t ≡ put f s y t
put_put f s x y t = by (eqb t s)
  where
    by : (b : Bool) → cond b y (cond b x (f t)) ≡ cond b y (f t)
    by true = refl
    by false = refl

-- a slot that is changed and then undone is the slot undone
undone_put : (m : Meaning) (s : ℕ) (x : Option Slot) → undone (record { cells = m.cells; mark = m.mark; slots = put m.slots s x }) s ≡ undone m s
unfolding undone
undone_put m s x = same_meaning _ _ (λ c. refl) refl (put_put m.slots s x None)

open_put : (f : ℕ → Option Slot) (s : ℕ) (k : Slot) → is_some (put f s (Some k) s) ≡ true
open_put f s k = ap is_some (cond-true (eqb s s) (Some k) (f s) (eq-eqb s s refl))

module _ (unit : ℕ → ℕ) (m : Meaning) (s : ℕ) where
  undone_ran : (st : Statement) → undone (ran unit m s st) s ≡ undone m s
  unfolding ran written_into looked_at
  undone_ran st = by (writes_cell st.operation)
    where
      by : (b : Bool) → undone (cond b (written_into unit m s st.cell (changed st.operation (current m s st.cell))) (looked_at unit m s st.cell)) s ≡ undone m s
      by true = undone_put m s _
      by false = undone_put m s _

  open_ran : (st : Statement) → is_open (ran unit m s st) s ≡ true
  unfolding ran written_into looked_at
  open_ran st = by (writes_cell st.operation)
    where
      by : (b : Bool) → is_open (cond b (written_into unit m s st.cell (changed st.operation (current m s st.cell))) (looked_at unit m s st.cell)) s ≡ true
      by true = open_put m.slots s _
      by false = open_put m.slots s _

  pub open_opened : is_open (opened m s) s ≡ true
  unfolding opened
  open_opened = open_put m.slots s fresh

  -- a slot that was closed, opened and undone again
  pub undone_opened : is_open m s ≡ false → undone (opened m s) s ≡ m
  unfolding opened undone
  undone_opened shut = undone_put m s (Some fresh) ∙ same_meaning _ _ (λ c. refl) refl closed
    where
      none_of : (o : Option Slot) → is_some o ≡ false → o ≡ None
      none_of None e = refl
      none_of (Some k) e = absurd (true≢false e)

      closed : (t : ℕ) → put m.slots s None t ≡ m.slots t
      closed t =
          ⊎_elim
          (λ (e : t ≡ s). cond-true (eqb t s) None (m.slots t) (eq-eqb t s e) ∙ sym (ap m.slots e ∙ none_of (m.slots s) shut))
          (λ (n : t ≡ s → ⊥). cond-false (eqb t s) None (m.slots t) (ne_eqb t s n))
          (cases_eq t s)

  -- a run that is not refused is of an open slot, and one more is behind
  pub one_more : (n : Meaning) (xs : List Statement) (i p : ℕ) (st : Statement) → i < length xs → st ≡ get_or xs i st → run_refusal unit m s st ≡ None → n ≡ ran unit m s st
      → (ran_all unit n s (drop (i + 1) xs) ≡ ran_all unit m s (drop i xs)) × (finish_refusal unit n s (drop (i + 1) xs) p ≡ finish_refusal unit m s (drop i xs) p) × (undone n s ≡ undone m s) × (is_open n s ≡ is_open m s)
  unfolding run_refusal
  one_more n xs i p st within read free is =
      let cut = drop_more xs i st within in
      let same : n ≡ ran unit m s (get_or xs i st) = is ∙ ap (ran unit m s) read in (
        ap (λ k. ran_all unit k s (drop (i + 1) xs)) same ∙ sym (ap (ran_all unit m s) cut),
        ap (λ k. finish_refusal unit k s (drop (i + 1) xs) p) same
            ∙ sym (ap (λ o. first_refusal o (finish_refusal unit (ran unit m s (get_or xs i st)) s (drop (i + 1) xs) p)) (sym (ap (run_refusal unit m s) read) ∙ free))
            ∙ sym (ap (λ l. finish_refusal unit m s l p) cut),
        ap (λ k. undone k s) is ∙ undone_ran st,
        ap (λ k. is_open k s) is ∙ open_ran st ∙ sym (was_open _ _ (is_open m s) free),
      )
    where
      was_open : (x : Option Fault) (f : Fault) (b : Bool) → cond b x (Some f) ≡ None → b ≡ true
      was_open x f true e = refl
      was_open x f false e = cc

  -- the first refusal, where the open is not refused
  pub first_open : (o : Option Fault) → open_refusal m s ≡ None → first_refusal (open_refusal m s) o ≡ o
  first_open o free = ap (λ x. first_refusal x o) free

  pub free_is_shut : open_refusal m s ≡ None → is_open m s ≡ false
  unfolding open_refusal
  free_is_shut free = shut (ltb s 8) (is_open m s) free
    where
      shut : (a b : Bool) → cond a (cond b (Some SlotOpen) None) (Some NoSlot) ≡ None → b ≡ false
      shut a false e = refl
      shut true true e = cc
      shut false true e = cc

  -- the transaction is refused after its slot was opened, and undone: nothing has changed
  pub taken_back : (before d after : Meaning) (sts : List Statement) (p : ℕ) (r : Result (Unit {0}) Fault) → open_refusal m s ≡ None → before ≡ opened m s
      → is_err r ≡ true → Finishes unit r s sts p before d → after ≡ undone d s → Transacts unit r s sts p m after
  taken_back before d after sts p (Ok u) free is failed told done = absurd (true≢false (sym failed))
  taken_back before d after sts p (Err e) free is failed told done = (
    first_open _ free ∙ ap (λ k. finish_refusal unit k s sts p) (sym is) ∙ told.0,
    done ∙ told.1 ∙ ap (λ k. undone k s) is ∙ undone_opened (free_is_shut free),
  )

  -- an undo of that slot is not refused
  pub undo_serves : (before d : Meaning) (sts : List Statement) (p : ℕ) (r : Result (Unit {0}) Fault) → before ≡ opened m s
      → is_err r ≡ true → Finishes unit r s sts p before d → undo_refusal d s ≡ None
  unfolding undo_refusal
  undo_serves before d sts p (Ok u) is failed told = absurd (true≢false (sym failed))
  undo_serves before d sts p (Err e) is failed told = cond-true (is_open d s) None (Some SlotClosed) (told.2 ∙ ap (λ k. is_open k s) is ∙ open_opened)
