use Rattle.std.proofs.Common.{◌≡◌, length, get_or, Some, None, sym, refl, ap, ◌∙◌, rules}
use Rattle.std.proofs.lemmas.Result.{err_from_is_err_and}
use Rattle.statement.specs.Operations.{writes_cell, changed, answered}
use Rattle.replica.specs.declared.faults.Fault.TheVariants.{Busy}
use Rattle.replica.proofs.Refused.{shut_is, open_was, run_closed, run_busy, run_free}
use Rattle.replica.proofs.Ran.{ran_answer, ran_write, ran_look}
use Rattle.in_place.specs.State.{meaning_of, same_unit}
use Rattle.in_place.proofs.Means.{open_is}
use Rattle.in_place.proofs.Moves.{open_holds, current_is}
use Rattle.in_place.proofs.transacting.InPlaceDatabase.run.Goals as goal

pub returns-in_err-expect_open : goal.returns-in_err-expect_open
returns-in_err-expect_open c =
    let d = c.args.self.now in
    let p = err_from_is_err_and c.from_residual.result c.from_residual.ensures.1 in
    let why = shut_is c.expect_open.ensures c.in_err-expect_open.was in
    rw (p.1, p.2, why.1) (run_closed (meaning_of d) c.args.slot same_unit c.args.statement.now (open_is d c.args.slot ∙ why.0), refl)

pub returns-then-is_busy : goal.returns-then-is_busy
returns-then-is_busy c =
    let d = c.args.self.now in
    let s = c.args.slot in (
      run_busy (meaning_of d) s same_unit c.args.statement.now (open_is d s ∙ open_was c.expect_open.ensures c.in_ok-expect_open.was) (sym c.if-is_busy.ensures)
          ∙ ap (λ k. Some (Busy k)) (sym c.cell.ensures.value),
      refl,
    )

pub returns-then-writes : goal.returns-then-writes
returns-then-writes c =
    let d = c.args.self.now in
    let m = meaning_of d in
    let s = c.args.slot in
    let st = c.args.statement.now in
    let same = c.cell-2.ensures.value in
    let long : length d.slots ≡ 8 = search rules in
    let was = open_was c.expect_open.ensures c.in_ok-expect_open.was in
    let free = sym c.if-is_busy.ensures in
    let held = open_holds (get_or d.slots s None) was in
    let seen = ap (λ k. get_or d.cells k 0) same ∙ sym (current_is d long s held.0 held.1 st.cell (writes_cell st.operation) free) in (
      run_free m s same_unit st (open_is d s ∙ was) free,
      ran_answer same_unit m s st st.cell refl c.apply-effect.result.answer (c.apply-effect.ensures.answer ∙ ap (answered st.operation) seen),
      ran_write same_unit m s st st.cell refl (meaning_of c.write.new.self) c.apply-effect.result.value (sym c.if-writes.ensures) (c.apply-effect.ensures.value ∙ ap (changed st.operation) seen) c.write.ensures,
    )

pub returns-else-writes : goal.returns-else-writes
returns-else-writes c =
    let d = c.args.self.now in
    let m = meaning_of d in
    let s = c.args.slot in
    let st = c.args.statement.now in
    let same = c.cell-2.ensures.value in
    let long : length d.slots ≡ 8 = search rules in
    let was = open_was c.expect_open.ensures c.in_ok-expect_open.was in
    let free = sym c.if-is_busy.ensures in
    let held = open_holds (get_or d.slots s None) was in
    let seen = ap (λ k. get_or d.cells k 0) same ∙ sym (current_is d long s held.0 held.1 st.cell (writes_cell st.operation) free) in (
      run_free m s same_unit st (open_is d s ∙ was) free,
      ran_answer same_unit m s st st.cell refl c.apply-effect.result.answer (c.apply-effect.ensures.answer ∙ ap (answered st.operation) seen),
      ran_look same_unit m s st st.cell refl (meaning_of c.look.new.self) (sym c.if-writes.ensures) c.look.ensures,
    )
