use Rattle.std.proofs.Common.{◌≡◌, ◌<◌, length, None, refl, rules, arith}
use Rattle.std.proofs.lemmas.Bool.{le-ltb, lt-leb}
use Rattle.statement.specs.Making.{missing}
use Rattle.statement.proofs.Numbers.{checked_is}
use Rattle.server.specs.declared.states.Arrival.TheVariants.{Run}
use Rattle.server.specs.Shown.{work_of}
use Rattle.server.proofs.Arriving.{goes_on}
use Rattle.server.proofs.servers.Server.look_run.Goals as goal

pub returns : goal.returns
returns c = λ m.
    let a = c.args in
    let st = c.in_ok-statement.statement in
    let t = c.in_ok-transaction in
    let w = work_of t.transaction.row in
    let made : (missing a.cell a.operation ≡ None) × (st.cell ≡ a.cell) × (st.operation ≡ a.operation) = search rules in
    let on = goes_on t.transaction.row.state Run t.transaction.outcome refl t.ensures.1 in
    let few : length w.stmts < 6 = omega (arith, c.len.ensures) in
    rw (c.in_ok-admit.ensures.0, le-ltb 15 a.id.client c.in_ok-admit.ensures.1, made.0, t.ensures.0, on.0, lt-leb 6 (length w.stmts) few)
    (refl, (checked_is st a.cell a.operation made.1 made.2, (refl, on.1), few))
