-- What `find_map` over a range from 0 answers, where a call leaves the closure as it is.
use Rattle.std.proofs.Common.{◌≡◌, ℕ, ◌+◌, ◌<◌, IfSome, IsSomeAnd, IsTrue, MatchOption, Some, None, Option, ap, subst, ◌∙◌, arith}
use Rattle.std.specs.Option.{option_map}
use Rattle.std.specs.Fn.{Called}
use Rattle.std.specs.Iterator.Runs.{Run, SomeRun, AllItemsGive, IsFirstToGive, ItemsCountUp}
use Rattle.std.specs.declared.ops.Range.{Range}
use Rattle.std.proofs.iter.Yields.{nat_range_steps}
use Rattle.std.proofs.iter.runs.Sources.{range_runs}
use denote.Param.Members.{Mut}

as_it_is : (o : Option ℕ) (v : ℕ) → option_map (λ y. y) o ≡ Some v → o ≡ Some v
as_it_is None v e = cc
as_it_is (Some x) v e = e

module _ {F B : Type 0} (g : Mut F (ℕ × Unit {0}) (Option B)) (f : F) (n : ℕ) (P : ℕ → Option B → Type 0) (keeps : (a : ℕ × Unit {0}) (q : Option B) (f' : F) → Called g f a q f' → f' ≡ f) (call : (k : ℕ) (q : Option B) (f' : F) → Called g f (k, tt) q f' → P k q) where
  abbrev all : Range ℕ
  all = record { start = 0; end = n }

  counts : (p : Run nat_range_steps) → p.from ≡ all → ItemsCountUp p 0 n
  counts p e = subst (λ (s : Range ℕ). ItemsCountUp p s.start s.end) e (range_runs p p.seen)

  place : (p : Run nat_range_steps) → p.from ≡ all → (k : ℕ) → k < p.len → p.at k ≡ Some k
  place p e k h = as_it_is (p.at k) k (let up = counts p e in let z : 0 + k ≡ k = omega arith in up.3 k h ∙ ap Some z)

  pub found_in_range : (r : Option B) → SomeRun nat_range_steps all (λ p. MatchOption r (IsTrue p.whole × AllItemsGive p g f None) (λ y. (i : ℕ) × (i < p.len) × (p.len ≡ i + 1) × IsFirstToGive p g f (Some y) None i))
      → MatchOption r ((k : ℕ) → k < n → P k None) (λ y. (i : ℕ) × (i < n) × P i (Some y) × ((k : ℕ) → k < i → P k None))
  found_in_range None (p, e, m) =
      λ k h.
      let up = counts p e in
      let l : k < p.len = omega (arith, up.1 m.0) in
      call k None f (subst (λ o. IfSome o (λ x. Called g f (x, tt) None f)) (place p e k l) (m.1 keeps k))
  found_in_range (Some y) (p, e, m) =
      let i = m.0 in
      let within : i < p.len = m.1 in
      let up = counts p e in
      let both = m.3 keeps in (
        i,
        omega (arith, up.0),
        call i (Some y) f (subst (λ o. IsSomeAnd o (λ x. Called g f (x, tt) (Some y) f)) (place p e i within) both.0),
        λ k h. call k None f (subst (λ o. IsSomeAnd o (λ x. Called g f (x, tt) None f)) (place p e k (omega arith)) (both.1 k h)),
      )
