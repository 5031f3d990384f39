use Rattle.std.proofs.Common.{◌∙◌}
use Rattle.replica.proofs.Finishing.{one_more}
use Rattle.replica.proofs.transacting.finish.Goals as goal

pub loop-statement-preserved : goal.loop-statement-preserved
loop-statement-preserved g c =
    let told = c.in_ok-run.ensures in
    let more = one_more g.D.Database.unit (g.D.Replica.meaning c.loop-statement.database) c.args.slot (g.D.Replica.meaning c.run.new.self)
    c.args.statements.now c.loop-statement.statement-index c.args.position c.statement-item.result c.loop-statement-test.true c.statement-item.is told.0 told.2 in
    (more.0 ∙ c.loop-statement.invariant.0, more.1 ∙ c.loop-statement.invariant.1, more.2 ∙ c.loop-statement.invariant.2, more.3 ∙ c.loop-statement.invariant.3)
