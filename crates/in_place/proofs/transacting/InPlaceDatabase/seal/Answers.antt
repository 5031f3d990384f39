use Rattle.std.proofs.Common.{◌≡◌, length, get_or, set, None, refl, ap, ◌∙◌, rules}
use Rattle.std.proofs.lemmas.Result.{err_from_is_err_and}
use Rattle.replica.proofs.Refused.{shut_is, open_was, seal_closed, seal_last, seal_free, no_next, next_is}
use Rattle.in_place.specs.Parts.{means}
use Rattle.in_place.specs.State.{meaning_of}
use Rattle.in_place.proofs.Means.{open_is}
use Rattle.in_place.proofs.Moves.{open_holds, seal_means}
use Rattle.in_place.proofs.transacting.InPlaceDatabase.seal.Goals as goal

pub returns-in_err-expect_open : goal.returns-in_err-expect_open
returns-in_err-expect_open c =
    let d = c.args.self.now in
    let p = err_from_is_err_and c.from_residual.result c.from_residual.ensures.1 in
    let why = shut_is c.expect_open.ensures c.in_err-expect_open.was in
    rw (p.1, p.2, why.1) (seal_closed (meaning_of d) c.args.slot c.args.position (open_is d c.args.slot ∙ why.0), refl)

pub returns-in_err-next : goal.returns-in_err-next
returns-in_err-next c =
    let d = c.args.self.now in
    let p = err_from_is_err_and c.from_residual-in_err-next.result c.from_residual-in_err-next.ensures.1 in
    let why = no_next c.args.position c.ranges.position.fits c.checked_add.result c.ok_or.result c.in_err-next.field-0.0 c.checked_add.ensures c.ok_or.ensures.value (c.in_err-next.was) in
    rw (p.1, p.2, why.1) (seal_last (meaning_of d) c.args.slot c.args.position (open_is d c.args.slot ∙ open_was c.expect_open.ensures c.in_ok-expect_open.was) why.0, refl)

pub returns : goal.returns
returns c =
    let d = c.args.self.now in
    let s = c.args.slot in
    let p = c.args.position in
    let long : length d.slots ≡ 8 = search rules in
    let was = open_was c.expect_open.ensures c.in_ok-expect_open.was in
    let held = open_holds (get_or d.slots s None) was in
    let next = next_is p c.ranges.position.fits c.checked_add.result c.ok_or.result c.in_ok-next.next c.checked_add.ensures c.ok_or.ensures.value (c.in_ok-next.was) in (
      seal_free (meaning_of d) s p (open_is d s ∙ was) next.0,
      tt,
      ap (means d.cells c.release_all.new.formers (set d.slots s None)) next.1 ∙ seal_means d long s held.0 held.1 c.release_all.new.formers p c.release_all.ensures,
    )
