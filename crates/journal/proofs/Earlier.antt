-- Judging in words of positions: the cells of a front are one run, and what a front tells of a client's job is what stands in the log.
use Rattle.std.proofs.Common.{◌≡◌, ℕ, zero, suc, ◌+◌, ◌<◌, ◌≤◌, ◌⊎◌, List, [], ◌∷◌, ◌++◌, length, take, drop, Some, None, Option, sym, refl, ap, ◌∙◌, inl, inr, add-one, arith}
use native.Mathlib.Decide.{ℕ_discrete}
use Rattle.statement.specs.declared.checked.Statement.{Statement}
use Rattle.replica.specs.Meanings.{upd, stepped, all_stepped}
use Rattle.replica.proofs.Updates.{upd_same, upd_other}
use Rattle.message.specs.Messages.{Tx, Msg, transaction}
use Rattle.journal.specs.Judging.{committed, Summary, judge, next, start, from, at}
use Rattle.journal.specs.Positions.{Committed, to_run, all_to_run, EarlierTold, OneRun, FirstEpoch}
use Rattle.journal.proofs.Summaries.{at_start, next_count}
use Rattle.journal.proofs.Fronts.{at_here, sees, is_accepted, is_stale, is_committed, is_late, is_again}

none_some : (o : Option ℕ) (p : ℕ) → o ≡ None → o ≡ Some p → ⊥
none_some o p e f = let z : ◌≡◌ {A = ℕ} 0 1 = cc in omega arith

runs_append : (t u : List Statement) (S : ℕ → ℕ) → all_stepped S (t ++ u) ≡ all_stepped (all_stepped S t) u
runs_append [] u S = refl
runs_append (a ∷ t) u S = runs_append t u (stepped S a)

next_cells : (j : Summary) (m : Msg) → (next j m).cells ≡ all_stepped j.cells (to_run (judge j m) m)
next_cells j m =
    elim (sees j m)
    [ is_accepted i e g ↦ rw g | is_stale i e f g ↦ rw g | is_committed t e f g ↦ rw (g, e) | is_late t e f g ↦ rw g | is_again t p e f g ↦ rw g ]

from_cells : (j : Summary) (l : List Msg) → (from j l).cells ≡ all_stepped j.cells (all_to_run j l)
from_cells j [] = refl
from_cells j (m ∷ l) =
    from_cells (next j m) l ∙ ap (λ S. all_stepped S (all_to_run (next j m) l)) (next_cells j m) ∙ sym (runs_append (to_run (judge j m) m) (all_to_run (next j m) l) j.cells)

-- the cells of a front are one run of the committed statements
pub one_run : OneRun
unfolding at
one_run l k = from_cells start (take k l)

drop_cases : (l : List Msg) (d : ℕ) → (drop d l ≡ []) ⊎ ((m : Msg) × (rest : List Msg) × (drop d l ≡ m ∷ rest))
drop_cases [] zero = inl refl
drop_cases [] (suc d) = inl refl
drop_cases (x ∷ l) zero = inr (x, l, refl)
drop_cases (x ∷ l) (suc d) = drop_cases l d

take_end : (l : List Msg) (d : ℕ) → drop d l ≡ [] → take (suc d) l ≡ take d l
take_end [] zero e = refl
take_end [] (suc d) e = refl
take_end (x ∷ l) zero e = cc
take_end (x ∷ l) (suc d) e = ap {B = List Msg} (λ t. x ∷ t) (take_end l d e)

-- a front's summary counts its messages
count_at : (l : List Msg) (k : ℕ) → k ≤ length l → (at l k).count ≡ k
count_at l zero h = ap (λ (j : Summary). j.count) (at_start l)
count_at l (suc k) h =
    let ih = count_at l k (omega arith) in
    elim (drop_cases l k) [
      | inl e ↦ absurd (let z = past_end l k e in omega arith)
      | inr x ↦ let a = at_here l k x.0 x.1 x.2 in
          let b = next_count (at l k) x.0 in
          let c : (at l (suc k)).count ≡ (at l k).count + 1 = rw (add-one k) at (ap (λ (j : Summary). j.count) a ∙ b) in
          omega arith
    ]
  where
    past_end : (l : List Msg) (k : ℕ) → drop k l ≡ [] → length l ≤ k
    past_end [] k e = omega arith
    past_end (x ∷ l) zero e = let z : ◌≡◌ {A = ℕ} 0 1 = cc in omega arith
    past_end (x ∷ l) (suc k) e = let q = past_end l k e in omega arith

seen_committed : (j : Summary) (t : Tx) → judge j (transaction t) ≡ committed → (next j (transaction t)).seen t.client t.job ≡ Some j.count
seen_committed j t g =
    rw g (ap (λ (f : ℕ → Option ℕ). f t.job) (upd_same j.seen t.client (upd (j.seen t.client) t.job (Some j.count)))
    ∙ upd_same (j.seen t.client) t.job (Some j.count))

seen_committed' : (j : Summary) (t : Tx) (c k : ℕ) → judge j (transaction t) ≡ committed → t.client ≡ c → t.job ≡ k → (next j (transaction t)).seen c k ≡ Some j.count
seen_committed' j t c k g a b =
    sym (ap (λ x. (next j (transaction t)).seen x k) a) ∙ sym (ap (λ x. (next j (transaction t)).seen t.client x) b) ∙ seen_committed j t g

data Sight (j : Summary) (m : Msg) (c k : ℕ) : Type 0 where
  first_time : (t : Tx) → m ≡ transaction t → judge j (transaction t) ≡ committed → t.client ≡ c → t.job ≡ k → Sight j m c k
  as_before : (next j m).seen c k ≡ j.seen c k → Sight j m c k

sight : (j : Summary) (m : Msg) (c k : ℕ) → Sight j m c k
sight j m c k =
    elim (sees j m) [
      | is_accepted i e g ↦ as_before (rw g)
      | is_stale i e f g ↦ as_before (rw g)
      | is_committed t e f g ↦
          elim (ℕ_discrete c t.client) [
            | yes p ↦ elim (ℕ_discrete k t.job) [
              | yes q ↦ first_time t e (rw e at g) (sym p) (sym q)
              | no nq ↦ as_before (rw (g, e) (rw p (ap (λ (h : ℕ → Option ℕ). h k) (upd_same j.seen t.client (upd (j.seen t.client) t.job (Some j.count)))
                  ∙ upd_other (j.seen t.client) t.job (Some j.count) k nq)))
            ]
            | no np ↦ as_before (rw (g, e) (ap (λ (h : ℕ → Option ℕ). h k) (upd_other j.seen t.client (upd (j.seen t.client) t.job (Some j.count)) c np)))
          ]
      | is_late t e f g ↦ as_before (rw g)
      | is_again t p e f g ↦ as_before (rw g)
    ]

data OneMore (l : List Msg) (k : ℕ) : Type 0 where
  at_end : at l (suc k) ≡ at l k → drop k l ≡ [] → OneMore l k
  one : (m : Msg) (rest : List Msg) → drop k l ≡ m ∷ rest → at l (suc k) ≡ next (at l k) m → OneMore l k

one_more : (l : List Msg) (k : ℕ) → OneMore l k
unfolding at
one_more l k =
    elim (drop_cases l k) [
      | inl e ↦ at_end (ap (from start) (take_end l k e)) e
      | inr x ↦ one x.0 x.1 x.2 (rw (add-one k) at (at_here l k x.0 x.1 x.2))
    ]

below_length : (l : List Msg) (k : ℕ) (m : Msg) (rest : List Msg) → drop k l ≡ m ∷ rest → k ≤ length l
below_length l zero m rest e = omega arith
below_length [] (suc k) m rest e = let z : ◌≡◌ {A = ℕ} 0 1 = cc in absurd (omega arith)
below_length (x ∷ l) (suc k) m rest e = let q = below_length l k m rest e in omega arith

earlier : (l : List Msg) (k c j p : ℕ) → (at l k).seen c j ≡ Some p → (p < k) × Committed l c j p
earlier l zero c j p h = absurd (none_some ((at l 0).seen c j) p (ap (λ (x : Summary). x.seen c j) (at_start l)) h)
earlier l (suc k) c j p h = go (one_more l k) (earlier l k c j p)
  where
    go : OneMore l k → ((at l k).seen c j ≡ Some p → (p < k) × Committed l c j p) → (p < suc k) × Committed l c j p
    go (at_end e d) ih = let r = ih (rw e at h) in let lt = r.0 in (omega arith, r.1)
    go (one m rest d e) ih =
        elim (sight (at l k) m c j) [
          | first_time t em g a b ↦
              let s : (next (at l k) m).seen c j ≡ Some (at l k).count = rw em (seen_committed' (at l k) t c j g a b) in
              let q : (at l k).count ≡ k = count_at l k (below_length l k m rest d) in
              let u : (at l (suc k)).seen c j ≡ Some p = h in
              let w : (at l (suc k)).seen c j ≡ Some (at l k).count = ap (λ (x : Summary). x.seen c j) e ∙ s in
              let x : (at l k).count ≡ p = cc in
              let y : k ≡ p = sym q ∙ x in
              rw (← y) (omega arith, record { tx = t; stands = record { rest = rest; here = d ∙ ap (λ (z : Msg). z ∷ rest) em; is = g }; client = a; job = b })
          | as_before s ↦ let r = ih (sym s ∙ sym (ap (λ (x : Summary). x.seen c j) e) ∙ h) in let lt = r.0 in (omega arith, r.1)
        ]

none_earlier : (l : List Msg) (k c j p : ℕ) → (at l k).seen c j ≡ None → p < k → Committed l c j p → ⊥
none_earlier l zero c j p h lt cm = omega arith
none_earlier l (suc k) c j p h lt cm =
    elim (ℕ_discrete p k) [
      | yes q ↦ here q
      | no nq ↦ none_earlier l k c j p (before (one_more l k)) (omega arith) cm
    ]
  where
    here : p ≡ k → ⊥
    here q =
        let d : drop k l ≡ transaction cm.tx ∷ cm.stands.rest = rw q at cm.stands.here in
        let g : judge (at l k) (transaction cm.tx) ≡ committed = rw q at cm.stands.is in
        let e : at l (suc k) ≡ next (at l k) (transaction cm.tx) = rw (add-one k) at (at_here l k (transaction cm.tx) cm.stands.rest d) in
        let s : (next (at l k) (transaction cm.tx)).seen c j ≡ Some (at l k).count = seen_committed' (at l k) cm.tx c j g cm.client cm.job in
        none_some ((at l (suc k)).seen c j) (at l k).count h (ap (λ (x : Summary). x.seen c j) e ∙ s)

    before : OneMore l k → (at l k).seen c j ≡ None
    before (at_end e d) = rw e at h
    before (one m rest d e) =
        elim (sight (at l k) m c j) [
          | first_time t em g a b ↦
              let s : (next (at l k) m).seen c j ≡ Some (at l k).count = rw em (seen_committed' (at l k) t c j g a b) in
              absurd (none_some ((at l (suc k)).seen c j) (at l k).count h (ap (λ (x : Summary). x.seen c j) e ∙ s))
          | as_before s ↦ sym s ∙ sym (ap (λ (x : Summary). x.seen c j) e) ∙ h
        ]

pub earlier_told : EarlierTold
earlier_told l = record { some = earlier l; none = none_earlier l }

pub first_epoch : FirstEpoch
first_epoch l = ap (λ (j : Summary). j.epoch) (at_start l)
