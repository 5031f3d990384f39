use Rattle.std.proofs.Common.{◌<◌, length, arith}
use Rattle.std.proofs.lemmas.Result.{err_from_is_err_and}
use Rattle.message.specs.Messages.{msg_of}
use Rattle.broadcast.proofs.Positions.{nth_some}
use Rattle.server.proofs.Delivery.{deliver_turned, deliver_fails, deliver_done}
use Rattle.server.proofs.delivers.deliver.Goals as goal

pub returns-in_err-message : goal.returns-in_err-message
returns-in_err-message g c =
    let a = c.args in let l = g.B.Broadcast.log a.broadcast.now in let ms = g.K.ReplicaBank.meanings a.bank.now in
    let p = err_from_is_err_and c.from_residual.result c.from_residual.ensures.1 in
    rw (p.1, p.2) (deliver_turned g.K.ReplicaBank.size l a.number a.place a.server.now ms c.in_err-message.field-0.0 (c.in_err-message.ensures (ms a.place)))

pub returns-in_err-advance : goal.returns-in_err-advance
returns-in_err-advance g c =
    let a = c.args in let l = g.B.Broadcast.log a.broadcast.now in let ms = g.K.ReplicaBank.meanings a.bank.now in
    let x = c.in_ok-message in let look = x.ensures (ms a.place) in
    let p = err_from_is_err_and c.from_residual-in_err-advance.result c.from_residual-in_err-advance.ensures.1 in
    rw (p.1, p.2) (deliver_fails g.K.ReplicaBank.size l a.number a.place a.server.now ms (msg_of x.message.now) x.judgement look.0 look.1.0 look.1.1
    c.in_err-advance.field-0.0 (g.K.ReplicaBank.meanings c.handle.new.bank) c.in_err-advance.ensures)

-- the message stands in the log, which has no room for more than 4096
pub advance-requires : goal.advance-requires
advance-requires g c =
    let a = c.args in let l = g.B.Broadcast.log a.broadcast.now in let p = a.server.now.delivered in
    let lt : p < length l = nth_some l p (msg_of c.in_ok-message.message.now) (c.in_ok-message.ensures (g.K.ReplicaBank.meanings a.bank.now a.place)).1.0 in
    let room = g.met.B.Broadcast.roomy a.broadcast.now in
    omega arith

pub returns : goal.returns
returns g c =
    let a = c.args in let l = g.B.Broadcast.log a.broadcast.now in let ms = g.K.ReplicaBank.meanings a.bank.now in
    let x = c.in_ok-message in let look = x.ensures (ms a.place) in
    deliver_done g.K.ReplicaBank.size l a.number a.place a.server.now ms (msg_of x.message.now) x.judgement look.0 look.1.0 look.1.1 c.delivered-position.result c.in_ok-advance.advance
    c.advance.new.self (g.K.ReplicaBank.meanings c.handle.new.bank) c.delivered-position.ensures c.in_ok-advance.ensures c.advance.ensures
