use Rattle.lexing.proofs.Heads.{none_left}
use Rattle.lexing.proofs.tokens.Lexer.is_done.Goals as goal

pub returns : goal.returns
returns c = none_left c.args.self.now.rest c.is_none.result c.is_none.ensures
