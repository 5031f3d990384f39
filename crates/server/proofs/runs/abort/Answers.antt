use Rattle.std.proofs.lemmas.Result.{err_from_is_err_and}
use Rattle.server.proofs.Acting.{abort_turned, abort_fails, abort_done}
use Rattle.server.proofs.runs.abort.Goals as goal

pub returns-in_err-transaction : goal.returns-in_err-transaction
returns-in_err-transaction g c =
    let a = c.args in let ms = g.K.ReplicaBank.meanings a.bank.now in
    let p = err_from_is_err_and c.from_residual.result c.from_residual.ensures.1 in
    rw (p.1, p.2) (abort_turned a.place a.server.now ms a.id.client a.id.job c.in_err-transaction.field-0.0 (c.in_err-transaction.ensures (ms a.place)))

pub returns-in_err-undo : goal.returns-in_err-undo
returns-in_err-undo g c =
    let a = c.args in let ms = g.K.ReplicaBank.meanings a.bank.now in let t = c.in_ok-transaction in let look = t.ensures (ms a.place) in
    let p = err_from_is_err_and c.from_residual-in_err-undo.result c.from_residual-in_err-undo.ensures.1 in
    rw (p.1, p.2)
    (abort_fails a.place a.server.now ms a.id.client a.id.job t.transaction look.0 look.1 (g.K.ReplicaBank.meanings c.undo.new.self) c.in_err-undo.field-0.0 c.in_err-undo.ensures)

pub returns : goal.returns
returns g c =
    let a = c.args in let ms = g.K.ReplicaBank.meanings a.bank.now in let t = c.in_ok-transaction in let look = t.ensures (ms a.place) in
    abort_done a.place a.server.now ms a.id.client a.id.job t.transaction look.0 look.1 (g.K.ReplicaBank.meanings c.undo.new.self) c.settle.new.self c.in_ok-undo.ensures c.settle.ensures
