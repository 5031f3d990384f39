use Rattle.std.proofs.Common.{arith}
use Rattle.lexing.proofs.Heads.{tail_same}
use Rattle.commands.proofs.Fronts.{past_target}
use Rattle.commands.proofs.parsing.further.Goals as goal

pub returns-in_err-byte-in-Read : goal.returns-in_err-byte-in-Read
returns-in_err-byte-in-Read c =
    let s = c.in_ok-target-in-Read.field-0 in
    rw (c.in-Read.is, c.from_residual-in_err-byte-in-Read.ensures)
    (λ t cell a b e. c.in_err-byte-in-Read.ensures.takes cell _ b (past_target s t c.in_ok-target-in-Read.ensures.1 e))

pub returns-in_err-byte-in-Store : goal.returns-in_err-byte-in-Store
returns-in_err-byte-in-Store c =
    let s = c.in_ok-target-in-Store.field-0 in
    rw (c.in-Store.is, c.from_residual-in_err-byte-in-Store.ensures)
    (λ t cell value a b d e. c.in_err-byte-in-Store.ensures.takes cell _ b (past_target s t c.in_ok-target-in-Store.ensures.1 e))

pub returns-in_err-number-in-Store : goal.returns-in_err-number-in-Store
returns-in_err-number-in-Store c =
    let s = c.in_ok-target-in-Store.field-0 in
    rw (c.in-Store.is, c.from_residual-in_err-number-in-Store.ensures)
    (λ t cell value a b d e.
    let further = past_target s t c.in_ok-target-in-Store.ensures.1 e in
    c.in_err-number-in-Store.ensures.takes value _ (omega (arith, d), d) (tail_same c.in_ok-byte-in-Store.ensures.takes.1 further))

pub returns-in_err-byte-in-Member : goal.returns-in_err-byte-in-Member
returns-in_err-byte-in-Member c =
    let s = c.in_ok-target-in-Member.field-0 in
    rw (c.in-Member.is, c.from_residual-in_err-byte-in-Member.ensures)
    (λ t cell member a b d e. c.in_err-byte-in-Member.ensures.takes cell _ b (past_target s t c.in_ok-target-in-Member.ensures.1 e))

pub returns-in_err-byte-in-Member-2 : goal.returns-in_err-byte-in-Member-2
returns-in_err-byte-in-Member-2 c =
    let s = c.in_ok-target-in-Member.field-0 in
    rw (c.in-Member.is, c.from_residual-in_err-byte-in-Member-2.ensures)
    (λ t cell member a b d e.
    let further = past_target s t c.in_ok-target-in-Member.ensures.1 e in
    c.in_err-byte-in-Member-2.ensures.takes member _ d (tail_same c.in_ok-byte-in-Member.ensures.takes.1 further))
