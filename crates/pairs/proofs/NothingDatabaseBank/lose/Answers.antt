use Rattle.pairs.proofs.Ahead.{upd_none}
use Rattle.pairs.proofs.NothingDatabaseBank.lose.Goals as goal

pub returns : goal.returns
returns c = upd_none c.args._place
