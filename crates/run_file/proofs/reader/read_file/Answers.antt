use Rattle.std.proofs.Common.{ℕ, ◌+◌, List, vec_items, subst, Bor}
use Rattle.std.proofs.lemmas.Result.{err_from_is_err_and}
use Rattle.run_file.specs.Texts.{texts}
use Rattle.run_file.specs.Sections.{StepsRead}
use Rattle.run_file.proofs.Whole.{names_head_fault, names_fault, steps_head_fault, steps_outcome}
use Rattle.run_file.proofs.reader.read_file.Goals as goal

pub returns-in_err-count-clause-read : goal.returns-in_err-count-clause-read
returns-in_err-count-clause-read c =
    let p = err_from_is_err_and c.from_residual.result c.from_residual.ensures.1 in
    rw (p.1, p.2) (names_head_fault _ _ c.if-text-gt-BYTES.false c.in_err-count.ensures)

pub returns-in_err-rest-clause-read : goal.returns-in_err-rest-clause-read
returns-in_err-rest-clause-read c =
    let p = err_from_is_err_and c.from_residual-in_err-rest.result c.from_residual-in_err-rest.ensures.1 in
    let one = c.in_ok-count.ensures in
    rw (p.1, p.2) (names_fault _ _ _ _ c.if-text-gt-BYTES.false one.0 one.1 c.in_err-rest.ensures.read)

pub returns-in_err-steps-clause-read : goal.returns-in_err-steps-clause-read
returns-in_err-steps-clause-read c =
    let p = err_from_is_err_and c.from_residual-in_err-steps.result c.from_residual-in_err-steps.ensures.1 in
    let one = c.in_ok-count.ensures in
    rw (p.1, p.2)
    (steps_head_fault _ _ _ _ _ _ c.if-text-gt-BYTES.false one.0 one.1 c.in_ok-rest.ensures.read c.in_err-steps.ensures)

pub returns-clause-read : goal.returns-clause-read
returns-clause-read c =
    let one = c.in_ok-count.ensures in
    let P : List (Bor (List ℕ)) → Type 0 = λ ns.
    StepsRead (texts ns) c.in_ok-steps.rest.now c.in_ok-steps.steps (c.in_ok-count.count + 2 + 1) c.read_steps.result
    (vec_items c.read_steps.new.lines) in
    steps_outcome _ _ _ _ _ _ _ _ _ c.if-text-gt-BYTES.false one.0 one.1 c.in_ok-rest.ensures.read c.in_ok-steps.ensures
    (subst P c.as_slice.ensures.value c.read_steps.ensures.read)
