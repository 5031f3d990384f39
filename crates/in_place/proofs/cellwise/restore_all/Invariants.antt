use Rattle.std.proofs.Common.{◌≡◌, ℕ, cond, ltb, get_or, None}
use Rattle.in_place.specs.Parts.{restored}
use Rattle.in_place.proofs.cellwise.restore_all.Given as goal

abbrev pub invariant-loop-c : goal.invariant-loop-c
invariant-loop-c l = (k : ℕ) → get_or l.cells k 0 ≡ cond (ltb k l.c) (restored l.slot (get_or l.formers k None) (get_or l.initial.cells k 0)) (get_or l.initial.cells k 0)
