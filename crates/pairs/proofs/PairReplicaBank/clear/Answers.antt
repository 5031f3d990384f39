use Rattle.pairs.proofs.Ahead.{all_cleared}
use Rattle.pairs.proofs.PairReplicaBank.clear.Goals as goal

pub returns-then-count-gt0 : goal.returns-then-count-gt0
returns-then-count-gt0 g c =
    all_cleared (g.D.Replica.meaning c.args.self.now.first) (g.D.Replica.meaning c.clear.new.self) (g.K.ReplicaBank.meanings c.args.self.now.rest) (g.K.ReplicaBank.meanings c.clear-then-count-gt0.new.self)
    c.args.count c.if-count-gt0.true c.clear.ensures c.clear-then-count-gt0.ensures
