use Rattle.std.proofs.Common.{arith, take_all}
use Rattle.std.proofs.lemmas.List.{get_or_default}
use Rattle.ensemble.specs.Whole.{state}
use Rattle.playing.proofs.Chains.{one_more, all_played}
use Rattle.playing.proofs.plays.perform_all.Goals as goal

pub loop-act-preserved : goal.loop-act-preserved
loop-act-preserved g c =
    let inv = c.loop-act.invariant in
    let S = state g.B.Broadcast g.K.ReplicaBank g.K.DatabaseBank in (
      one_more c.args.acts.now c.loop-act.act-index c.args.history.now.items c.loop-act.history.items c.push_reserved.new.self.items
          (S c.args.ensemble.now) (S c.loop-act.ensemble) (S c.perform-answer.new.ensemble) _ c.perform-answer.result
          c.loop-act-test.true (get_or_default _ _ _ _ c.loop-act-test.true) inv.0 c.perform-answer.ensures c.push_reserved.ensures.items,
      omega (arith, c.push_reserved.ensures.len, inv.1),
      omega (arith, c.push_reserved.ensures.capacity, inv.2),
    )

pub returns : goal.returns
returns g c =
    let S = state g.B.Broadcast g.K.ReplicaBank g.K.DatabaseBank in
    all_played c.args.acts.now c.loop-act.act-index c.args.history.now.items c.loop-act.history.items (S c.args.ensemble.now) (S c.loop-act.ensemble)
    (take_all _ _ c.loop-act-test.false) c.loop-act.invariant.0
