-- Seal is refused where the slot is closed or the position is the last, and commits what the slot sees otherwise.
use Rattle.std.proofs.Common.{refl, ap, ◌∙◌}
use Rattle.std.proofs.lemmas.Result.{err_from_is_err_and}
use Rattle.replica.specs.Calls.{undone}
use Rattle.replica.proofs.Refused.{shut_is, open_was, seal_closed, seal_last, seal_free, no_next, next_is}
use Rattle.deferred.specs.Means.{means, meaning_of}
use Rattle.deferred.proofs.Moves.{open_is, seal_means}
use Rattle.deferred.proofs.transacting.DeferredDatabase.seal.Goals as goal

pub returns-in_err-expect_open : goal.returns-in_err-expect_open
returns-in_err-expect_open c =
    let d = c.args.self.now in
    let p = err_from_is_err_and c.from_residual.result c.from_residual.ensures.1 in
    let why = shut_is c.expect_open.ensures c.in_err-expect_open.was in
    rw (p.1, p.2, why.1) (seal_closed (meaning_of d) c.args.slot c.args.position (open_is d.cells d.slots d.mark c.args.slot ∙ why.0), refl)

pub returns-in_err-next : goal.returns-in_err-next
returns-in_err-next c =
    let d = c.args.self.now in
    let p = err_from_is_err_and c.from_residual-in_err-next.result c.from_residual-in_err-next.ensures.1 in
    let why = no_next c.args.position c.ranges.position.fits c.checked_add.result c.ok_or.result c.in_err-next.field-0.0 c.checked_add.ensures c.ok_or.ensures.value c.in_err-next.was in
    rw (p.1, p.2, why.1) (seal_last (meaning_of d) c.args.slot c.args.position (open_is d.cells d.slots d.mark c.args.slot ∙ open_was c.expect_open.ensures c.in_ok-expect_open.was) why.0, refl)

pub returns : goal.returns
returns c =
    let d = c.args.self.now in
    let s = c.args.slot in
    let p = c.args.position in
    let next = next_is p c.ranges.position.fits c.checked_add.result c.ok_or.result c.in_ok-next.next c.checked_add.ensures c.ok_or.ensures.value c.in_ok-next.was in (
      seal_free (meaning_of d) s p (open_is d.cells d.slots d.mark s ∙ open_was c.expect_open.ensures c.in_ok-expect_open.was) next.0,
      tt,
      c.close.ensures ∙ ap (λ k. undone (means c.seen-self.result d.slots k) s) next.1 ∙ seal_means d.cells d.slots d.mark c.seen-self.result s p c.seen-self.ensures,
    )
