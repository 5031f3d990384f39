use Rattle.std.proofs.Common.{◌≤◌, length, Some, arith, rules}
use Rattle.std.proofs.lemmas.Result.{err_from_is_err_and}
use Rattle.message.specs.Noted.{Longer, statements_of}
use Rattle.server.proofs.Acting.{run_turned, run_fails, run_done}
use Rattle.server.proofs.runs.run.Goals as goal

pub returns-in_err-statement : goal.returns-in_err-statement
returns-in_err-statement g c =
    let a = c.args in let ms = g.K.ReplicaBank.meanings a.bank.now in
    let p = err_from_is_err_and c.from_residual.result c.from_residual.ensures.1 in
    rw (p.1, p.2)
    (run_turned a.place a.server.now ms g.K.DatabaseBank.units a.id.client a.id.job a.cell a.operation c.in_err-statement.field-0.0 (c.in_err-statement.ensures (ms a.place)))

pub returns-in_err-result : goal.returns-in_err-result
returns-in_err-result g c =
    let a = c.args in let ms = g.K.ReplicaBank.meanings a.bank.now in let x = c.in_ok-statement in let look = x.ensures (ms a.place) in
    let p = err_from_is_err_and c.from_residual-in_err-result.result c.from_residual-in_err-result.ensures.1 in
    rw (p.1, p.2) (run_fails a.place a.server.now ms g.K.DatabaseBank.units a.id.client a.id.job a.cell a.operation x.statement x.transaction look.0 look.1
    (g.K.ReplicaBank.meanings c.run.new.self) c.in_err-result.field-0.0 c.in_err-result.ensures)

-- there is room: the look found fewer than six
pub returns-in_err-notes : goal.returns-in_err-notes
returns-in_err-notes g c =
    let few = (c.in_ok-statement.ensures (g.K.ReplicaBank.meanings c.args.bank.now c.args.place)).1.2 in
    let long : 6 ≤ length (statements_of c.in_ok-statement.transaction.row.notes) = search rules in
    absurd (omega arith)

pub returns : goal.returns
returns g c =
    let a = c.args in let ms = g.K.ReplicaBank.meanings a.bank.now in let x = c.in_ok-statement in let look = x.ensures (ms a.place) in let r = c.in_ok-result.result in
    let more : Longer x.transaction.row.notes x.statement r (Some c.in_ok-notes.notes) = search rules in
    run_done a.place a.server.now ms g.K.DatabaseBank.units a.id.client a.id.job a.cell a.operation x.statement x.transaction look.0 look.1
    (g.K.ReplicaBank.meanings c.run.new.self) r c.settle.new.self c.in_ok-notes.notes c.in_ok-result.ensures more c.settle.ensures
