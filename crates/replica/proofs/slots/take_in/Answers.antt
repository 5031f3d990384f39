-- Taking in is refused where a slot is open or the position is the last, and replays the statements otherwise.
use Rattle.std.proofs.Common.{sym, refl, ◌∙◌}
use Rattle.std.proofs.lemmas.Result.{err_from_is_err_and}
use Rattle.std.proofs.lemmas.Bool.{cond-true, cond-false, eq-eqb, ne_eqb}
use Rattle.replica.proofs.Refused.{no_next, next_is}
use Rattle.replica.proofs.slots.take_in.Goals as goal

pub returns-then-any_open : goal.returns-then-any_open
returns-then-any_open g c = (cond-true _ _ _ (sym c.if-any_open.ensures), refl, refl)

pub returns-in_err-next : goal.returns-in_err-next
returns-in_err-next g c =
    let p = err_from_is_err_and c.from_residual.result c.from_residual.ensures.1 in
    let why = no_next c.args.position c.ranges.position.fits c.checked_add.result c.ok_or.result c.in_err-next.field-0.0 c.checked_add.ensures c.ok_or.ensures.value c.in_err-next.was in
    rw (p.1, p.2, why.1) (cond-false _ _ _ (sym c.if-any_open.ensures) ∙ cond-true _ _ _ (eq-eqb c.args.position 18446744073709551615 why.0), refl, refl)

pub returns : goal.returns
returns g c =
    let next = next_is c.args.position c.ranges.position.fits c.checked_add.result c.ok_or.result c.in_ok-next.next c.checked_add.ensures c.ok_or.ensures.value c.in_ok-next.was in
    (sym c.if-any_open.ensures, ne_eqb c.args.position 18446744073709551615 next.0, c.replay.ensures, next.1)
