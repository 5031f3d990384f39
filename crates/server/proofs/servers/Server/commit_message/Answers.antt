use Rattle.std.proofs.Common.{sym}
use Rattle.std.proofs.lemmas.Result.{err_from_is_err_and}
use Rattle.server.specs.Shown.{shown, work_of}
use Rattle.server.proofs.Acting.{commit_sends}
use Rattle.server.proofs.servers.Server.commit_message.Goals as goal

pub returns-in_err-transaction : goal.returns-in_err-transaction
returns-in_err-transaction c = let p = err_from_is_err_and c.from_residual.result c.from_residual.ensures.1 in rw (p.1, p.2) c.in_err-transaction.ensures

pub returns : goal.returns
returns c = λ m.
    let t = c.in_ok-transaction.transaction in
    let look = c.in_ok-transaction.ensures m in
    (look.0, sym (commit_sends c.args.id.client c.args.id.job (shown c.args.self.now m) t.slot.index (work_of t.row) look.1.0 c.args.id.server))
