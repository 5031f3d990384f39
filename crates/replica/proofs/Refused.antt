-- Which refusal there is, from what was tested.
use Rattle.std.proofs.Common.{◌≡◌, ℕ, ◌+◌, ◌^◌, ◌<◌, Bool, true, false, cond, not, ltb, Some, None, Ok, Err, Option, Result, refl, ap, ◌∙◌, arith}
use Rattle.std.specs.Option.{SomeIff, ok_or}
use Rattle.std.proofs.lemmas.Bool.{cond-true, cond-false, lt-ltb, eq-eqb, ne_eqb}
use Rattle.statement.specs.declared.checked.Statement.{Statement}
use Rattle.statement.specs.Operations.{writes_cell}
use Rattle.replica.specs.declared.faults.Fault.{Fault}
use Rattle.replica.specs.declared.faults.Fault.TheVariants.{NoSlot, SlotOpen, SlotClosed, Busy, NotQuiet, LastPosition}
use Rattle.replica.specs.Meanings.{Meaning, is_open, busy, quiet}
use Rattle.replica.specs.Refusals.{last, open_refusal, run_refusal, seal_refusal, undo_refusal, intake_refusal}

module _ (m : Meaning) (s : ℕ) where
  pub open_free : s < 8 → is_open m s ≡ false → open_refusal m s ≡ None
  unfolding open_refusal
  open_free h o = cond-true (ltb s 8) _ _ (lt-ltb s 8 h) ∙ cond-false (is_open m s) _ _ o

  pub open_told : (b : Bool) → is_open m s ≡ b → open_refusal m s ≡ cond (ltb s 8) (cond b (Some SlotOpen) None) (Some NoSlot)
  unfolding open_refusal
  open_told b o = ap (λ x. cond (ltb s 8) (cond x (Some SlotOpen) None) (Some NoSlot)) o

  pub undo_closed : is_open m s ≡ false → undo_refusal m s ≡ Some SlotClosed
  unfolding undo_refusal
  undo_closed o = cond-false (is_open m s) _ _ o

  pub undo_free : is_open m s ≡ true → undo_refusal m s ≡ None
  unfolding undo_refusal
  undo_free o = cond-true (is_open m s) _ _ o

  pub seal_closed : (p : ℕ) → is_open m s ≡ false → seal_refusal m s p ≡ Some SlotClosed
  unfolding seal_refusal
  seal_closed p o = cond-false (is_open m s) _ _ o

  pub seal_last : (p : ℕ) → is_open m s ≡ true → p ≡ 18446744073709551615 → seal_refusal m s p ≡ Some LastPosition
  unfolding seal_refusal
  seal_last p o e = cond-true (is_open m s) _ _ o ∙ cond-true (last p) _ _ (eq-eqb p 18446744073709551615 e)

  pub seal_free : (p : ℕ) → is_open m s ≡ true → (p ≡ 18446744073709551615 → ⊥) → seal_refusal m s p ≡ None
  unfolding seal_refusal
  seal_free p o n = cond-true (is_open m s) _ _ o ∙ cond-false (last p) _ _ (ne_eqb p 18446744073709551615 n)

  pub run_closed : (unit : ℕ → ℕ) (st : Statement) → is_open m s ≡ false → run_refusal unit m s st ≡ Some SlotClosed
  unfolding run_refusal
  run_closed unit st o = cond-false (is_open m s) _ _ o

  pub run_busy : (unit : ℕ → ℕ) (st : Statement) → is_open m s ≡ true → busy m s (unit st.cell) (writes_cell st.operation) ≡ true → run_refusal unit m s st ≡ Some (Busy st.cell)
  unfolding run_refusal
  run_busy unit st o b = cond-true (is_open m s) _ _ o ∙ cond-true (busy m s (unit st.cell) (writes_cell st.operation)) _ _ b

  pub run_free : (unit : ℕ → ℕ) (st : Statement) → is_open m s ≡ true → busy m s (unit st.cell) (writes_cell st.operation) ≡ false → run_refusal unit m s st ≡ None
  unfolding run_refusal
  run_free unit st o b = cond-true (is_open m s) _ _ o ∙ cond-false (busy m s (unit st.cell) (writes_cell st.operation)) _ _ b

  pub intake_open : (p : ℕ) (b : Bool) → quiet m ≡ not b → b ≡ true → intake_refusal m p ≡ Some NotQuiet
  unfolding intake_refusal
  intake_open p b e h = cond-false (quiet m) _ _ (e ∙ ap not h)

  pub intake_last : (p : ℕ) (b : Bool) → quiet m ≡ not b → b ≡ false → p ≡ 18446744073709551615 → intake_refusal m p ≡ Some LastPosition
  unfolding intake_refusal
  intake_last p b e h l = cond-true (quiet m) _ _ (e ∙ ap not h) ∙ cond-true (last p) _ _ (eq-eqb p 18446744073709551615 l)

  pub intake_free : (p : ℕ) (b : Bool) → quiet m ≡ not b → b ≡ false → (p ≡ 18446744073709551615 → ⊥) → intake_refusal m p ≡ None
  unfolding intake_refusal
  intake_free p b e h n = cond-true (quiet m) _ _ (e ∙ ap not h) ∙ cond-false (last p) _ _ (ne_eqb p 18446744073709551615 n)

pub intake_told : (m : Meaning) (p : ℕ) (b : Bool) → quiet m ≡ not b → intake_refusal m p ≡ cond b (Some NotQuiet) (cond (last p) (Some LastPosition) None)
unfolding intake_refusal
intake_told m p b e = ap (λ q. cond q (cond (last p) (Some LastPosition) None) (Some NotQuiet)) e ∙ turned b (cond (last p) (Some LastPosition) None) (Some NotQuiet)
  where
    turned : (b : Bool) (x y : Option Fault) → cond (not b) x y ≡ cond b y x
    turned true x y = refl
    turned false x y = refl

-- whether the slot is open, from what `expect_open` answers
module _ {b : Bool} {r : Result (Unit {0}) Fault} (told : r ≡ cond b (Ok tt) (Err SlotClosed)) where
  pub shut_is : {e : Fault} → r ≡ Err e → (b ≡ false) × (e ≡ SlotClosed)
  shut_is {e = e} was = by b told
    where
      by : (a : Bool) → r ≡ cond a (Ok tt) (Err SlotClosed) → (a ≡ false) × (e ≡ SlotClosed)
      by true h = cc
      by false h = (refl, cc)

  pub open_was : {u : Unit {0}} → r ≡ Ok u → b ≡ true
  open_was was = by b told
    where
      by : (a : Bool) → r ≡ cond a (Ok tt) (Err SlotClosed) → a ≡ true
      by true h = refl
      by false h = cc

-- one past the position, where it has a successor
module _ (p : ℕ) (fits : p < 2 ^ 64) where
  pub no_next : (o : Option ℕ) (r : Result ℕ Fault) (e : Fault) → SomeIff o (p + 1 < 2 ^ 64) (p + 1) → r ≡ ok_or o LastPosition → r ≡ Err e → (p ≡ 18446744073709551615) × (e ≡ LastPosition)
  no_next None r e last made was = (omega arith, cc)
  no_next (Some x) r e next made was = cc

  pub next_is : (o : Option ℕ) (r : Result ℕ Fault) (v : ℕ) → SomeIff o (p + 1 < 2 ^ 64) (p + 1) → r ≡ ok_or o LastPosition → r ≡ Ok v → (p ≡ 18446744073709551615 → ⊥) × (v ≡ p + 1)
  next_is None r v last made was = cc
  next_is (Some x) r v next made was =
      let e : v ≡ x = cc in
      (λ l. omega arith, e ∙ next.1)
