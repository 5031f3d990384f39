use Rattle.std.proofs.Common.{◌+◌, ◌-◌, rules}
use Rattle.ensemble.specs.Whole.{state}
use Rattle.playing.proofs.Chains.{new_played}
use Rattle.playing.proofs.plays.play_new.Goals as goal

pub returns : goal.returns
returns g c =
    let a = c.args in
    let made = c.in_ok-ensemble.ensures in
    let S = state g.B.Broadcast g.K.ReplicaBank g.K.DatabaseBank in (
      search rules,
      made.0,
      new_played (g.B.Broadcast.capacity a.broadcast) a.servers g.K.ReplicaBank.size (λ i. g.K.DatabaseBank.units (i - 1)) (λ q. g.K.ReplicaBank.meanings a.bank (a.servers + q))
          made.0.2 (g.met.B.Broadcast.roomy a.broadcast).2 a.acts.now a.history.now.items c.perform_all.new.history.items (S c.in_ok-ensemble.ensemble) (S c.perform_all.new.ensemble) made.1
          c.perform_all.ensures,
    )
