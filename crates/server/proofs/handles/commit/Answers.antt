use Rattle.std.proofs.Common.{◌<◌, ◌≤◌, arith}
use Rattle.std.proofs.lemmas.Result.{err_from_is_err_and}
use Rattle.message.specs.Messages.{tx_of}
use Rattle.server.proofs.Handling.{seal_fails, seal_done, has_it, intake_fails, intake_done}
use Rattle.server.proofs.handles.commit.Goals as goal

pub returns-in_err-seal-in-Some : goal.returns-in_err-seal-in-Some
returns-in_err-seal-in-Some g c =
    let a = c.args in let ns = g.K.ReplicaBank.meanings c.seal.new.self in
    let p = err_from_is_err_and c.from_residual.result c.from_residual.ensures.1 in
    rw (p.1, p.2)
    (seal_fails g.K.ReplicaBank.size a.number a.place a.server.now (g.K.ReplicaBank.meanings a.bank.now) (tx_of a.message.now) c.in-Some.slot c.in-Some.ensures c.in_err-seal-in-Some.field-0.0 ns
    (rw c.delivered-position.ensures at c.in_err-seal-in-Some.ensures))

pub returns-in_ok-seal-in-Some : goal.returns-in_ok-seal-in-Some
returns-in_ok-seal-in-Some g c =
    let a = c.args in let ns = g.K.ReplicaBank.meanings c.seal.new.self in
    seal_done g.K.ReplicaBank.size a.number a.place a.server.now (g.K.ReplicaBank.meanings a.bank.now) (tx_of a.message.now) c.in-Some.slot c.in-Some.ensures ns
    (rw c.delivered-position.ensures at c.in_ok-seal-in-Some.ensures)

pub returns-in-None : goal.returns-in-None
returns-in-None g c =
    let a = c.args in let ms = g.K.ReplicaBank.meanings a.bank.now in
    let lt : a.server.now.delivered < (ms a.place).mark = omega (arith, c.delivered-position.ensures, c.mark.ensures, c.if-position-mark.true) in
    has_it g.K.ReplicaBank.size a.number a.place a.server.now ms (tx_of a.message.now) c.in-None.ensures lt

pub returns-in_err-intake-in-None-2 : goal.returns-in_err-intake-in-None-2
returns-in_err-intake-in-None-2 g c =
    let a = c.args in let ms = g.K.ReplicaBank.meanings a.bank.now in
    let le : (ms a.place).mark ≤ a.server.now.delivered = omega (arith, c.delivered-position.ensures, c.mark.ensures, c.if-position-mark.false) in
    let p = err_from_is_err_and c.from_residual-in_err-intake-in-None-2.result c.from_residual-in_err-intake-in-None-2.ensures.1 in
    rw (p.1, p.2) (intake_fails g.K.ReplicaBank.size a.number a.place a.server.now ms (tx_of a.message.now) c.in-None-2.ensures (g.K.ReplicaBank.meanings c.intake.new.self) le
    c.in_err-intake-in-None-2.field-0.0 (rw c.delivered-position.ensures at c.in_err-intake-in-None-2.ensures))

pub returns-in_ok-intake-in-None-2 : goal.returns-in_ok-intake-in-None-2
returns-in_ok-intake-in-None-2 g c =
    let a = c.args in let ms = g.K.ReplicaBank.meanings a.bank.now in
    let le : (ms a.place).mark ≤ a.server.now.delivered = omega (arith, c.delivered-position.ensures, c.mark.ensures, c.if-position-mark.false) in
    intake_done g.K.ReplicaBank.size a.number a.place a.server.now ms (tx_of a.message.now) c.in-None-2.ensures (g.K.ReplicaBank.meanings c.intake.new.self) le
    (rw (c.delivered-position.ensures, c.statements.ensures) at c.in_ok-intake-in-None-2.ensures)
