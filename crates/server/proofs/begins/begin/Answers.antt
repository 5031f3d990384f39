use Rattle.std.proofs.lemmas.Result.{err_from_is_err_and}
use Rattle.server.proofs.Acting.{begin_turned, begin_fails, begin_done}
use Rattle.server.proofs.begins.begin.Goals as goal

pub returns-in_err-slot : goal.returns-in_err-slot
returns-in_err-slot g c =
    let a = c.args in let ms = g.K.ReplicaBank.meanings a.bank.now in
    let p = err_from_is_err_and c.from_residual.result c.from_residual.ensures.1 in
    rw (p.1, p.2) (begin_turned a.place a.server.now ms g.K.ReplicaBank.size a.count.count a.id.server a.id.client a.id.job c.in_err-slot.field-0.0 (c.in_err-slot.ensures (ms a.place)))

pub returns-in_err-open : goal.returns-in_err-open
returns-in_err-open g c =
    let a = c.args in let ms = g.K.ReplicaBank.meanings a.bank.now in let s = c.in_ok-slot in let look = s.ensures (ms a.place) in
    let p = err_from_is_err_and c.from_residual-in_err-open.result c.from_residual-in_err-open.ensures.1 in
    rw (p.1, p.2) (begin_fails a.place a.server.now ms g.K.ReplicaBank.size a.count.count a.id.server a.id.client a.id.job s.slot look.0 look.1 (g.K.ReplicaBank.meanings c.open.new.self)
    c.in_err-open.field-0.0 c.in_err-open.ensures)

pub returns : goal.returns
returns g c =
    let a = c.args in let ms = g.K.ReplicaBank.meanings a.bank.now in let s = c.in_ok-slot in let look = s.ensures (ms a.place) in
    begin_done a.place a.server.now ms g.K.ReplicaBank.size a.count.count a.id.server a.id.client a.id.job s.slot look.0 look.1 (g.K.ReplicaBank.meanings c.open.new.self)
    c.put.new.self c.in_ok-open.ensures (rw c.new.ensures at c.put.ensures)
