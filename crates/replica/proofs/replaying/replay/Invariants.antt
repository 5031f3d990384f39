use Rattle.std.proofs.Common.{◌≡◌, length, get_or, drop}
use Rattle.replica.specs.Meanings.{all_stepped}
use Rattle.replica.proofs.replaying.replay.Given as goal

abbrev pub invariant-loop-statement : goal.invariant-loop-statement
invariant-loop-statement l =
    (length l.after ≡ 64)
    × (all_stepped (λ c. get_or l.after c 0) (drop l.statement-index l.statements) ≡ all_stepped (λ c. get_or l.initial.after c 0) l.statements)
