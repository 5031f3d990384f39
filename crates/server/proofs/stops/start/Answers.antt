use Rattle.std.proofs.Common.{refl}
use Rattle.std.proofs.lemmas.Result.{err_from_is_err_and}
use Rattle.pronto.specs.Servers.{started}
use Rattle.pronto.specs.Refusing.{first, start_table}
use Rattle.pronto.specs.Acts.{NothingTold}
use Rattle.server.proofs.Settling.{refused, obeyed_here}
use Rattle.server.proofs.stops.start.Goals as goal

pub returns-in_err-look_start : goal.returns-in_err-look_start
returns-in_err-look_start c =
    let p = err_from_is_err_and c.from_residual.result c.from_residual.ensures.1 in
    rw (p.1, p.2) (λ i ms. refused (λ s. first (start_table s)) NothingTold (λ s. started s c.args.bar) i c.args.server.now ms c.in_err-look_start.field-0.0 ms (c.in_err-look_start.ensures (ms i)) refl)

pub returns : goal.returns
returns c = λ i ms.
    obeyed_here (λ s. first (start_table s)) NothingTold (λ s. started s c.args.bar) i c.args.server.now ms tt c.resume.new.self
    (c.in_ok-look_start.ensures (ms i)).0 tt (c.resume.ensures (ms i))
