use Rattle.std.proofs.Common.{ℕ, Option, ap, arith}
use Rattle.pronto.specs.Servers.{Work}
use Rattle.server.specs.Shown.{shown}
use Rattle.server.proofs.Rowwise.{rows_set}
use Rattle.server.proofs.servers.Server.put.Goals as goal

pub returns : goal.returns
returns c = λ m.
    let v = c.args.self.now in
    ap (λ (f : ℕ → Option Work). record (shown v m) { rows = f }) (rows_set v.rows c.args.slot.index c.args.row (omega arith))
