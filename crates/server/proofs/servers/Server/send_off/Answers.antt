use Rattle.std.proofs.Common.{◌≡◌, sym, refl}
use Rattle.server.specs.declared.states.Arrival.TheVariants.{Commit}
use Rattle.server.specs.declared.states.Outcome.TheVariants.{Commits}
use Rattle.server.specs.Shown.{shown, work_of}
use Rattle.server.proofs.Acting.{commit_leaves, commit_unreached}
use Rattle.server.proofs.Arriving.{goes_on}
use Rattle.server.proofs.servers.Server.send_off.Goals as goal

pub returns-in-Ok : goal.returns-in-Ok
returns-in-Ok c = λ m.
    let a = c.args in let t = c.in-Ok.transaction in let reached = c.in-Ok.ensures in
    let commits : t.outcome ≡ Commits = cc (goes_on t.row.state Commit t.outcome refl reached.1).1 in
    rw (commit_leaves a.id.client a.id.job (shown a.self.now m) t.slot.index (work_of t.row) reached.0) (rw commits at (c.settle.ensures m))

pub returns-in_default : goal.returns-in_default
returns-in_default c = λ m. sym (commit_unreached c.args.id.client c.args.id.job (shown c.args.self.now m) c.in_default.field-0 c.in_default.ensures)
