use Rattle.std.proofs.lemmas.Result.{err_from_is_err_and}
use Rattle.message.specs.Messages.{tx_of}
use Rattle.server.proofs.Handling.{undo_fails, undo_done, again_passes}
use Rattle.server.proofs.handles.repeat.Goals as goal

pub returns-in_err-undo-in-Some : goal.returns-in_err-undo-in-Some
returns-in_err-undo-in-Some g c =
    let a = c.args in
    let p = err_from_is_err_and c.from_residual.result c.from_residual.ensures.1 in
    rw (p.1, p.2) (λ q.
    undo_fails g.K.ReplicaBank.size a.number a.place a.server.now (g.K.ReplicaBank.meanings a.bank.now) (tx_of a.message.now) c.in-Some.slot c.in-Some.ensures q
    c.in_err-undo-in-Some.field-0.0 (g.K.ReplicaBank.meanings c.undo.new.self) c.in_err-undo-in-Some.ensures)

pub returns-in_ok-undo-in-Some : goal.returns-in_ok-undo-in-Some
returns-in_ok-undo-in-Some g c = λ q.
    let a = c.args in
    undo_done g.K.ReplicaBank.size a.number a.place a.server.now (g.K.ReplicaBank.meanings a.bank.now) (tx_of a.message.now) c.in-Some.slot c.in-Some.ensures q
    (g.K.ReplicaBank.meanings c.undo.new.self) c.in_ok-undo-in-Some.ensures

pub returns-in-None : goal.returns-in-None
returns-in-None g c =
    let a = c.args in
    again_passes g.K.ReplicaBank.size a.number a.place a.server.now (g.K.ReplicaBank.meanings a.bank.now) (tx_of a.message.now) c.in-None.ensures
