use Rattle.std.proofs.Common.{◌≡◌, drop}
use Rattle.replica.specs.Meanings.{is_open}
use Rattle.replica.specs.Calls.{undone}
use Rattle.replica.specs.Transactions.{ran_all, finish_refusal}
use Rattle.replica.proofs.transacting.finish.Given as goal

abbrev pub invariant-loop-statement : goal.invariant-loop-statement
invariant-loop-statement g l =
    let unit = g.D.Database.unit in
    let m = g.D.Replica.meaning l.database in
    let before = g.D.Replica.meaning l.initial.database in
    (ran_all unit m l.slot (drop l.statement-index l.statements) ≡ ran_all unit before l.slot l.statements)
    × (finish_refusal unit m l.slot (drop l.statement-index l.statements) l.position ≡ finish_refusal unit before l.slot l.statements l.position)
    × (undone m l.slot ≡ undone before l.slot)
    × (is_open m l.slot ≡ is_open before l.slot)
