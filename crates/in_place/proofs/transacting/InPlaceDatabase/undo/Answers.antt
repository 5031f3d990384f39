use Rattle.std.proofs.Common.{◌≡◌, length, get_or, None, refl, ◌∙◌, rules}
use Rattle.std.proofs.lemmas.Result.{err_from_is_err_and}
use Rattle.replica.proofs.Refused.{shut_is, open_was, undo_closed, undo_free}
use Rattle.in_place.specs.State.{meaning_of}
use Rattle.in_place.proofs.Means.{open_is}
use Rattle.in_place.proofs.Moves.{open_holds, undo_means}
use Rattle.in_place.proofs.transacting.InPlaceDatabase.undo.Goals as goal

pub returns-in_err-expect_open : goal.returns-in_err-expect_open
returns-in_err-expect_open c =
    let d = c.args.self.now in
    let p = err_from_is_err_and c.from_residual.result c.from_residual.ensures.1 in
    let why = shut_is c.expect_open.ensures c.in_err-expect_open.was in
    rw (p.1, p.2, why.1) (undo_closed (meaning_of d) c.args.slot (open_is d c.args.slot ∙ why.0), refl)

pub returns : goal.returns
returns c =
    let d = c.args.self.now in
    let s = c.args.slot in
    let long : length d.slots ≡ 8 = search rules in
    let was = open_was c.expect_open.ensures c.in_ok-expect_open.was in
    let held = open_holds (get_or d.slots s None) was in (
      undo_free (meaning_of d) s (open_is d s ∙ was),
      tt,
      undo_means d long s held.0 held.1 c.restore_all.new.cells c.release_all.new.formers c.restore_all.ensures c.release_all.ensures,
    )
