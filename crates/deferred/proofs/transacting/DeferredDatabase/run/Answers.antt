-- A run from its parts: which lock excludes it, what the slot sees, and what it keeps.
use Rattle.std.proofs.Common.{◌≡◌, length, get_or, set, Some, sym, refl, ap, ◌∙◌, rules}
use Rattle.std.proofs.lemmas.Result.{err_from_is_err_and}
use Rattle.statement.specs.Operations.{changed, answered}
use Rattle.replica.specs.declared.faults.Fault.TheVariants.{Busy}
use Rattle.replica.specs.Meanings.{or_else}
use Rattle.replica.proofs.Refused.{shut_is, open_was, run_closed, run_busy, run_free}
use Rattle.replica.proofs.Ran.{ran_answer, ran_write, ran_look}
use Rattle.deferred.specs.Units.{unit_of_eight}
use Rattle.deferred.specs.Shown.{shown}
use Rattle.deferred.specs.Means.{means, meaning_of}
use Rattle.deferred.proofs.Moves.{open_is, open_below, write_means, look_means, current_is}
use Rattle.deferred.proofs.transacting.DeferredDatabase.run.Goals as goal

pub returns-in_err-expect_open : goal.returns-in_err-expect_open
returns-in_err-expect_open c =
    let d = c.args.self.now in
    let p = err_from_is_err_and c.from_residual.result c.from_residual.ensures.1 in
    let why = shut_is c.expect_open.ensures c.in_err-expect_open.was in
    rw (p.1, p.2, why.1) (run_closed (meaning_of d) c.args.slot unit_of_eight c.args.statement.now (open_is d.cells d.slots d.mark c.args.slot ∙ why.0), refl)

pub returns-then-is_busy : goal.returns-then-is_busy
returns-then-is_busy c =
    let d = c.args.self.now in
    let s = c.args.slot in (
      run_busy (meaning_of d) s unit_of_eight c.args.statement.now (open_is d.cells d.slots d.mark s ∙ open_was c.expect_open.ensures c.in_ok-expect_open.was) (sym c.if-is_busy.ensures)
          ∙ ap (λ k. Some (Busy k)) (sym c.cell-cell.ensures.value),
      refl,
    )

pub returns-then-writes : goal.returns-then-writes
returns-then-writes c =
    let d = c.args.self.now in
    let m = meaning_of c.args.self.now in
    let s = c.args.slot in
    let st = c.args.statement.now in
    let t = c.in-Some.transaction in
    let is = c.in-Some.is in
    let e = c.apply-effect.result in
    let w = c.write.new.self in
    let long : length d.slots ≡ 8 = search rules in
    let was = open_was c.expect_open.ensures c.in_ok-expect_open.was in
    let seen = c.sees.ensures ∙ ap (λ k. or_else ((shown t).own st.cell) (get_or d.cells k 0)) c.cell-cell.ensures.value ∙ current_is d.cells d.slots d.mark s st.cell t is in (
      run_free m s unit_of_eight st (open_is d.cells d.slots d.mark s ∙ was) (sym c.if-is_busy.ensures),
      ran_answer unit_of_eight m s st st.cell refl e.answer (c.apply-effect.ensures.answer ∙ ap (answered st.operation) seen),
      ran_write unit_of_eight m s st st.cell refl (means d.cells (set d.slots s (Some w)) d.mark) e.value (sym c.if-writes.ensures) (c.apply-effect.ensures.value ∙ ap (changed st.operation) seen)
          (write_means d.cells d.slots d.mark s (open_below d.slots long s was) long st.cell e.value t w is c.write.ensures),
    )

pub returns-else-writes : goal.returns-else-writes
returns-else-writes c =
    let d = c.args.self.now in
    let m = meaning_of c.args.self.now in
    let s = c.args.slot in
    let st = c.args.statement.now in
    let t = c.in-Some.transaction in
    let is = c.in-Some.is in
    let w = c.read.new.self in
    let long : length d.slots ≡ 8 = search rules in
    let was = open_was c.expect_open.ensures c.in_ok-expect_open.was in
    let seen = c.sees.ensures ∙ ap (λ k. or_else ((shown t).own st.cell) (get_or d.cells k 0)) c.cell-cell.ensures.value ∙ current_is d.cells d.slots d.mark s st.cell t is in (
      run_free m s unit_of_eight st (open_is d.cells d.slots d.mark s ∙ was) (sym c.if-is_busy.ensures),
      ran_answer unit_of_eight m s st st.cell refl c.apply-effect.result.answer (c.apply-effect.ensures.answer ∙ ap (answered st.operation) seen),
      ran_look unit_of_eight m s st st.cell refl (means d.cells (set d.slots s (Some w)) d.mark) (sym c.if-writes.ensures)
          (look_means d.cells d.slots d.mark s (open_below d.slots long s was) long st.cell t w is c.read.ensures),
    )
