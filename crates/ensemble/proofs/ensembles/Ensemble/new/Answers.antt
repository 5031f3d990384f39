use Rattle.std.proofs.Common.{rules, ◌≡◌, ◌≤◌, replicate, ap, ◌∙◌}
use Rattle.ensemble.specs.Whole.{whole}
use Rattle.ensemble.proofs.Told.{new_whole}
use Rattle.ensemble.proofs.ensembles.Ensemble.new.Goals as goal

pub returns : goal.returns
returns g c =
    let n = c.args.servers in
    let counted : (1 ≤ n) × (n ≤ 8) × (c.in-Some.count.count ≡ n) = search rules in
    let enough : n ≤ g.K.ReplicaBank.size = search rules in
    let b = c.clear.new.self in
    let k = c.clear-2.new.self in (
      (counted.0, counted.1, enough),
      ap (λ x. whole (g.B.Broadcast.log b) (g.B.Broadcast.waiting b) (g.B.Broadcast.capacity b) x g.K.ReplicaBank.size g.K.DatabaseBank.units 0 (replicate 8 c.new-2.result) (g.K.ReplicaBank.meanings k)) counted.2
          ∙ new_whole n counted.1 c.new-2.result (g.K.ReplicaBank.meanings c.args.bank) c.new-2.ensures
          (g.B.Broadcast.log b) (g.B.Broadcast.waiting b) (g.B.Broadcast.capacity b) (g.B.Broadcast.capacity c.args.broadcast) g.K.ReplicaBank.size g.K.DatabaseBank.units (g.K.ReplicaBank.meanings k)
          c.clear.ensures.log c.clear.ensures.waiting c.clear.ensures.capacity c.clear-2.ensures,
    )
