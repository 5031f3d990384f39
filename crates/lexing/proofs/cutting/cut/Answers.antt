use Rattle.std.proofs.Common.{◌≡◌, ◌<◌, ℕ, List, length, MatchOption, Option, ap, ◌∙◌, arith, rules, tests}
use Rattle.std.specs.List.{AllWithin, HoldsAt}
use Rattle.std.proofs.lemmas.Iterator.{IsFirst-from_position, YieldsList-from_slice}
use Rattle.std.proofs.lemmas.Option.{MatchOption-at_none, MatchOption-at_some}
use Rattle.lexing.specs.Parts.{parts}
use Rattle.lexing.proofs.Cuts.{cut_at, parts_cut, parts_free, free_by_index}
use Rattle.lexing.proofs.cutting.cut.Goals as goal
use Rattle.lexing.proofs.cutting.cut.Goals.{After-position}

-- where the first stop stands
abbrev First : ℕ → List ℕ → Option ℕ → Type 0
First s bs r =
    MatchOption r (AllWithin (λ b. b ≡ s → ⊥) bs 0 (length bs))
    (λ i. (i < length bs) × HoldsAt (λ b. b ≡ s) bs i × AllWithin (λ b. b ≡ s → ⊥) bs 0 i)

first : (c : After-position) → First c.args.stop c.args.bytes.now c.position.result
first c =
    let s = c.args.stop in
    IsFirst-from_position _ _ _ (λ b. b ≡ s) (λ b. b ≡ s → ⊥) c.position.ensures.ran (YieldsList-from_slice c.args.bytes.now cc)
    (λ x q k. search (rules, tests)) (λ x q k. search (rules, tests))

pub returns-in_err-i : goal.returns-in_err-i
returns-in_err-i c =
    let s = c.args.stop in
    let bs = c.args.bytes.now in
    let none = MatchOption-at_none _ _ c.in_err-i.was (first (goal.at.returns-in_err-i c).After-position) in
    let f = free_by_index s bs (λ k h. none k 0 (omega arith) h) in
    record { text = rw c.from_residual.ensures f; parts = rw c.from_residual.ensures (parts_free _ _ f) }

pub returns : goal.returns
returns c =
    let f = MatchOption-at_some _ _ _ c.in_ok-i.was (first (goal.at.returns c).After-position) in
    let h = cut_at c.args.stop c.args.bytes.now c.in_ok-i.i f.0 (f.1 0) (λ k lt. f.2 k 0 (omega arith) lt) in
    record { text = h; parts = ap (parts c.args.stop) h.1 ∙ parts_cut _ _ _ h.0 }
