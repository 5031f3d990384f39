-- Fronts of a log: one message more, an old position in a longer log, how a message is judged, and that the epoch never falls.
use Rattle.std.proofs.Common.{◌≡◌, ℕ, zero, suc, ◌+◌, ◌<◌, ◌≤◌, ◌≢◌, List, [], ◌∷◌, ◌++◌, length, take, drop, Some, None, Option, sym, refl, ap, ◌∙◌, add-one, arith}
use native.Mathlib.Decide.{ℕ_discrete}
use Rattle.std.proofs.lemmas.List.{take-append-le, take_all, take-take, take-append-drop}
use Rattle.std.proofs.lemmas.Bool.{eq-eqb, ne_eqb}
use Rattle.message.specs.Messages.{Tx, Msg, epoch_change, transaction}
use Rattle.journal.specs.Judging.{accepted, stale, committed, late, again, Summary, judge, next, start, from, at}

pub from_append : (j : Summary) (X Y : List Msg) → from j (X ++ Y) ≡ from (from j X) Y
from_append j [] Y = refl
from_append j (m ∷ X) Y = from_append (next j m) X Y

pub at_all : (l : List Msg) → at l (length l) ≡ from start l
unfolding at
at_all l = ap (from start) (take_all (length l) l (omega arith))

-- an old position in a longer log
pub at_old : (l : List Msg) (m : Msg) (k : ℕ) → k ≤ length l → at (l ++ m ∷ []) k ≡ at l k
unfolding at
at_old l m k h = ap (from start) (take-append-le k l (m ∷ []) h)

pub from_push : (j : Summary) (l : List Msg) (m : Msg) → from j (l ++ m ∷ []) ≡ next (from j l) m
from_push j l m = from_append j l (m ∷ [])

-- the log with its first k messages and the one after them
pub take_here : (l : List Msg) (k : ℕ) (m : Msg) (r : List Msg) → drop k l ≡ m ∷ r → take (suc k) l ≡ take k l ++ m ∷ []
take_here [] zero m r e = cc
take_here [] (suc k) m r e = cc
take_here (x ∷ l) zero m r e = cc
take_here (x ∷ l) (suc k) m r e = ap {B = List Msg} (λ t. x ∷ t) (take_here l k m r e)

pub drop_here : (l : List Msg) (k : ℕ) (m : Msg) (r : List Msg) → drop k l ≡ m ∷ r → drop (suc k) l ≡ r
drop_here [] zero m r e = cc
drop_here [] (suc k) m r e = cc
drop_here (x ∷ l) zero m r e = cc
drop_here (x ∷ l) (suc k) m r e = drop_here l k m r e

pub length_here : (l : List Msg) (k : ℕ) (m : Msg) (r : List Msg) → drop k l ≡ m ∷ r → k < length l
length_here [] zero m r e = let z : ◌≡◌ {A = ℕ} 0 1 = cc in omega arith
length_here [] (suc k) m r e = let z : ◌≡◌ {A = ℕ} 0 1 = cc in omega arith
length_here (x ∷ l) zero m r e = omega arith
length_here (x ∷ l) (suc k) m r e = let h = length_here l k m r e in omega arith

pub at_here : (l : List Msg) (k : ℕ) (m : Msg) (r : List Msg) → drop k l ≡ m ∷ r → at l (k + 1) ≡ next (at l k) m
unfolding at
at_here l k m r e = rw (add-one k, take_here l k m r e) (from_push start (take k l) m)

-- how a message is judged
pub data Sees (j : Summary) (m : Msg) : Type 0 where
  is_accepted : (i : ℕ) → m ≡ epoch_change i j.epoch → judge j m ≡ accepted → Sees j m
  is_stale : (i e : ℕ) → m ≡ epoch_change i e → judge j m ≡ stale → Sees j m
  is_committed : (t : Tx) → m ≡ transaction t → t.epoch ≡ j.epoch → judge j m ≡ committed → Sees j m
  is_late : (t : Tx) → m ≡ transaction t → t.epoch ≢ j.epoch → judge j m ≡ late → Sees j m
  is_again : (t : Tx) (p : ℕ) → m ≡ transaction t → t.epoch ≡ j.epoch → judge j m ≡ again p → Sees j m

pub sees : (j : Summary) (m : Msg) → Sees j m
unfolding judge
sees j (epoch_change i e) =
    elim (ℕ_discrete e j.epoch) [
      | yes p ↦ is_accepted i (ap (epoch_change i) p) (rw (p, eq-eqb j.epoch j.epoch refl))
      | no np ↦ is_stale i e refl (rw (ne_eqb e j.epoch np))
    ]
sees j (transaction t) =
    elim (ℕ_discrete t.epoch j.epoch) [
      | yes p ↦ go p (j.seen t.client t.job) refl
      | no np ↦ is_late t refl np (rw (ne_eqb t.epoch j.epoch np))
    ]
  where
    go : t.epoch ≡ j.epoch → (o : Option ℕ) → j.seen t.client t.job ≡ o → Sees j (transaction t)
    go p None e = is_committed t refl p (rw (p, eq-eqb j.epoch j.epoch refl, e))
    go p (Some q) e = is_again t q refl p (rw (p, eq-eqb j.epoch j.epoch refl, e))

-- the epoch never falls, and what it comes to after a message
pub next_epoch : (j : Summary) (m : Msg) → j.epoch ≤ (next j m).epoch
next_epoch j m =
    elim (sees j m) [
      | is_accepted i e g ↦ rw g (omega arith)
      | is_stale i e f g ↦ rw g (omega arith)
      | is_committed t e f g ↦ rw (g, e) (omega arith)
      | is_late t e f g ↦ rw g (omega arith)
      | is_again t p e f g ↦ rw g (omega arith)
    ]

pub from_epoch : (j : Summary) (l : List Msg) → j.epoch ≤ (from j l).epoch
from_epoch j [] = omega arith
from_epoch j (m ∷ l) = let a = next_epoch j m in let b = from_epoch (next j m) l in omega arith

pub at_epoch : (l : List Msg) (k k' : ℕ) → k ≤ k' → (at l k).epoch ≤ (at l k').epoch
unfolding at
at_epoch l k k' h =
    let e : from start (take k' l) ≡ from (from start (take k (take k' l))) (drop k (take k' l)) =
    ap (from start) (sym (take-append-drop k (take k' l))) ∙ from_append start (take k (take k' l)) (drop k (take k' l)) in
    let b = from_epoch (from start (take k (take k' l))) (drop k (take k' l)) in
    let c : from start (take k (take k' l)) ≡ from start (take k l) = ap (from start) (take-take k k' l h) in
    rw e (rw (← c) b)
