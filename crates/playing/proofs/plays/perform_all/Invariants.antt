use Rattle.std.proofs.Common.{◌≡◌, ◌+◌, ◌≤◌, length, vec_items, vec_len, vec_capacity}
use Rattle.ensemble.specs.Whole.{state}
use Rattle.playing.proofs.Chains.{SoFar}
use Rattle.playing.proofs.plays.perform_all.Given as goal

abbrev pub invariant-loop-act : goal.invariant-loop-act
invariant-loop-act g l =
    SoFar l.acts l.act-index (vec_items l.initial.history) (vec_items l.history)
    (state g.B.Broadcast g.K.ReplicaBank g.K.DatabaseBank l.initial.ensemble) (state g.B.Broadcast g.K.ReplicaBank g.K.DatabaseBank l.ensemble)
    × (vec_len l.history ≡ vec_len l.initial.history + l.act-index)
    × (vec_len l.initial.history + length l.acts ≤ vec_capacity l.history)
