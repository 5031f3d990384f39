-- Undo is refused where the slot is closed, and closes it otherwise.
use Rattle.std.proofs.Common.{refl, ◌∙◌}
use Rattle.std.proofs.lemmas.Result.{err_from_is_err_and}
use Rattle.replica.proofs.Refused.{shut_is, open_was, undo_closed, undo_free}
use Rattle.deferred.specs.Means.{meaning_of}
use Rattle.deferred.proofs.Moves.{open_is}
use Rattle.deferred.proofs.transacting.DeferredDatabase.undo.Goals as goal

pub returns-in_err-expect_open : goal.returns-in_err-expect_open
returns-in_err-expect_open c =
    let d = c.args.self.now in
    let p = err_from_is_err_and c.from_residual.result c.from_residual.ensures.1 in
    let why = shut_is c.expect_open.ensures c.in_err-expect_open.was in
    rw (p.1, p.2, why.1) (undo_closed (meaning_of d) c.args.slot (open_is d.cells d.slots d.mark c.args.slot ∙ why.0), refl)

pub returns : goal.returns
returns c =
    let d = c.args.self.now in
    (undo_free (meaning_of d) c.args.slot (open_is d.cells d.slots d.mark c.args.slot ∙ open_was c.expect_open.ensures c.in_ok-expect_open.was), tt, c.close.ensures)
