use Rattle.std.proofs.Common.{◌≡◌, None, Some, arith, rules, tests}
use Rattle.std.proofs.lemmas.Iterator.{IsFirst-from_position, YieldsList-from_slice}
use Rattle.run_file.proofs.Places.{first_listed}
use Rattle.run_file.proofs.meaning.place_of.Goals as goal

pub returns-in_err-place : goal.returns-in_err-place
returns-in_err-place c =
    rw c.from_residual.ensures
    (first_listed c.args.names.now c.args.name.now None
    (IsFirst-from_position _ _ None (λ x. x.now ≡ c.args.name.now) (λ x. x.now ≡ c.args.name.now → ⊥) c.in_err-place.ensures.ran
    (YieldsList-from_slice c.args.names.now cc)
    (λ x q k. search (rules, tests)) (λ x q k. search (rules, tests))))

pub returns : goal.returns
returns c =
    let found = first_listed c.args.names.now c.args.name.now (Some c.in_ok-place.place)
    (IsFirst-from_position _ _ (Some c.in_ok-place.place) (λ x. x.now ≡ c.args.name.now) (λ x. x.now ≡ c.args.name.now → ⊥) c.in_ok-place.ensures.ran
    (YieldsList-from_slice c.args.names.now cc)
    (λ x q k. search (rules, tests)) (λ x q k. search (rules, tests))) in
    (omega (arith, found.0), grind (arith, found.1))
