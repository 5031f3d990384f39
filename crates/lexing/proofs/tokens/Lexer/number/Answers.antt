use Rattle.std.proofs.Common.{sym, ◌∙◌, arith}
use Rattle.lexing.proofs.Digits.{only_one}
use Rattle.lexing.proofs.Heads.{head_same}
use Rattle.lexing.proofs.tokens.Lexer.number.Goals as goal

pub returns-in_default-clause-takes : goal.returns-in_default-clause-takes
returns-in_default-clause-takes c x ws good e =
    let told = c.in-Number.ensures.gives in
    omega (arith, good.1, only_one c.in-Number.value x told.2.0 good.0 (sym told.2.1 ∙ head_same told.1 e))
