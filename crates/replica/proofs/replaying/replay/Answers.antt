use Rattle.std.proofs.Common.{◌∙◌, length-set}
use Rattle.replica.proofs.Steps.{run_more, run_all}
use Rattle.replica.proofs.replaying.replay.Goals as goal

pub loop-statement-preserved : goal.loop-statement-preserved
loop-statement-preserved c = (
  simp length-set c.loop-statement.invariant.0,
  run_more c.args.statements.now c.loop-statement.statement-index c.loop-statement.after c.statement-item.result c.cell-c.result c.apply.result.value
      c.loop-statement-test.true c.statement-item.is c.cell-c.ensures.value c.loop-statement.invariant.0 c.cell-c.ensures.bound c.apply.ensures.value
      ∙ c.loop-statement.invariant.1,
)

pub returns : goal.returns
returns c = run_all c.args.statements.now c.loop-statement.statement-index _ _ c.loop-statement-test.false c.loop-statement.invariant.1
