use Rattle.std.proofs.Common.{◌≡◌, ℕ, cond, ltb, get_or, None}
use Rattle.in_place.specs.Parts.{released}
use Rattle.in_place.proofs.cellwise.release_all.Given as goal

abbrev pub invariant-loop-former : goal.invariant-loop-former
invariant-loop-former l =
    (k : ℕ) → get_or l.formers k None ≡ cond (ltb k l.former-index) (released l.slot (get_or l.initial.formers k None)) (get_or l.initial.formers k None)
