use Rattle.std.proofs.Common.{◌≡◌, Some, None, refl, rules}
use Rattle.std.proofs.lemmas.Result.{err_from_is_err_and}
use Rattle.replica.specs.Calls.{lost}
use Rattle.pronto.specs.Servers.{stopped}
use Rattle.pronto.specs.Refusing.{first, running_table}
use Rattle.pronto.specs.Acts.{NothingTold}
use Rattle.server.specs.Shown.{shown}
use Rattle.server.proofs.Settling.{refused, obeyed}
use Rattle.server.proofs.stops.stop.Goals as goal

pub returns-in_err-look_running : goal.returns-in_err-look_running
returns-in_err-look_running g c =
    let a = c.args in
    let ms = g.K.ReplicaBank.meanings a.bank.now in
    let e = c.in_err-look_running.field-0.0 in
    let turned : first (running_table (shown a.server.now (ms a.place))) ≡ Some e = search rules in
    let p = err_from_is_err_and c.from_residual.result c.from_residual.ensures.1 in
    rw (p.1, p.2) (refused (λ s. first (running_table s)) NothingTold stopped a.place a.server.now ms e ms turned refl)

pub returns : goal.returns
returns g c =
    let a = c.args in
    let ms = g.K.ReplicaBank.meanings a.bank.now in
    let runs : first (running_table (shown a.server.now (ms a.place))) ≡ None = search rules in
    obeyed (λ s. first (running_table s)) NothingTold stopped a.place a.server.now ms tt c.halt.new.self (lost (ms a.place))
    (g.K.ReplicaBank.meanings c.lose.new.self) runs tt c.lose.ensures (c.halt.ensures (ms a.place))
