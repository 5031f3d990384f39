-- One message more in a front: what it does to the epoch in force and to where a job was committed.
use Rattle.std.proofs.Common.{◌≡◌, ℕ, zero, suc, ◌+◌, ◌<◌, ◌≤◌, Bool, true, false, cond, eqb, ◌≢◌, List, [], ◌∷◌, length, take, Some, None, Option, Ok, Err, Result, sym, refl, ap, ◌∙◌, add-one, arith}
use native.Mathlib.Decide.{ℕ_discrete}
use Rattle.std.proofs.lemmas.Bool.{eq-eqb, ne_eqb}
use Rattle.std.specs.Borrow.{Bor}
use Rattle.std.specs.Option.{option_or}
use Rattle.std.specs.Result.{IsOk}
use Rattle.replica.specs.Meanings.{upd}
use Rattle.message.specs.declared.messages.Message.{Message}
use Rattle.message.specs.Messages.{Tx, Msg, epoch_change, transaction}
use Rattle.broadcast.specs.Bags.{nth, heard}
use Rattle.broadcast.proofs.Positions.{nth_none}
use Rattle.broadcast.specs.declared.faults.NotOrdered.{NotOrdered}
use Rattle.journal.specs.Judging.{Judged, accepted, stale, committed, late, again, Summary, unless_seen, judge, after_judged, next, start, from, at}
use Rattle.journal.specs.Verdicts.{judged_there}
use Rattle.replica.proofs.Updates.{upd_same, upd_other}

module _ (j : Summary) where
  -- an epoch message
  pub epoch_judged : (i e : ℕ) (b : Bool) → eqb e j.epoch ≡ b → judge j (epoch_change i e) ≡ cond b accepted stale
  unfolding judge
  epoch_judged i e b h = ap (λ x. cond x accepted stale) h

  pub epoch_moves : (i e : ℕ) (b : Bool) → eqb e j.epoch ≡ b → next j (epoch_change i e) ≡ after_judged (cond b accepted stale) (epoch_change i e) j
  epoch_moves i e b h = ap (λ x. after_judged x (epoch_change i e) j) (epoch_judged i e b h)

  -- a transaction message
  pub transaction_judged : (t : Tx) (b : Bool) (o : Option ℕ) → eqb t.epoch j.epoch ≡ b → j.seen t.client t.job ≡ o → judge j (transaction t) ≡ cond b (unless_seen o) late
  unfolding judge
  transaction_judged t b o h s = ap (λ x. cond x (unless_seen (j.seen t.client t.job)) late) h ∙ ap (λ x. cond b (unless_seen x) late) s

  pub transaction_moves : (t : Tx) (b : Bool) (o : Option ℕ) → eqb t.epoch j.epoch ≡ b → j.seen t.client t.job ≡ o → next j (transaction t) ≡ after_judged (cond b (unless_seen o) late) (transaction t) j
  transaction_moves t b o h s = ap (λ x. after_judged x (transaction t) j) (transaction_judged t b o h s)

  transaction_keeps : (t : Tx) (b : Bool) (o : Option ℕ) → (after_judged (cond b (unless_seen o) late) (transaction t) j).epoch ≡ j.epoch
  transaction_keeps t true None = refl
  transaction_keeps t true (Some p) = refl
  transaction_keeps t false o = refl

  pub transaction_epoch : (t : Tx) → (next j (transaction t)).epoch ≡ j.epoch
  transaction_epoch t = ap (λ s. s.epoch) (transaction_moves t (eqb t.epoch j.epoch) (j.seen t.client t.job) refl refl) ∙ transaction_keeps t (eqb t.epoch j.epoch) (j.seen t.client t.job)

  module _ (c k : ℕ) where
    two_places : (a b : ℕ) (x : Option ℕ) → (a ≡ c → b ≡ k → ⊥) → upd j.seen a (upd (j.seen a) b x) c k ≡ j.seen c k
    two_places a b x n =
        elim (ℕ_discrete c a) [
          | yes e ↦ elim (ℕ_discrete k b) [
            | yes f ↦ absurd (n (sym e) (sym f))
            | no m ↦ ap (λ z. upd j.seen a (upd (j.seen a) b x) z k) e ∙ ap (λ (f : ℕ → Option ℕ). f k) (upd_same j.seen a (upd (j.seen a) b x)) ∙ upd_other (j.seen a) b x k m ∙ ap (λ z. j.seen z k) (sym e)
          ]
          | no m ↦ ap (λ (f : ℕ → Option ℕ). f k) (upd_other j.seen a (upd (j.seen a) b x) c m)
        ]

    transaction_same : (t : Tx) (b : Bool) (o : Option ℕ) → (t.client ≡ c → t.job ≡ k → ⊥) → (after_judged (cond b (unless_seen o) late) (transaction t) j).seen c k ≡ j.seen c k
    transaction_same t true None n = two_places t.client t.job (Some j.count) n
    transaction_same t true (Some p) n = refl
    transaction_same t false o n = refl

    pub transaction_other : (t : Tx) → (t.client ≡ c → t.job ≡ k → ⊥) → (next j (transaction t)).seen c k ≡ j.seen c k
    transaction_other t n = ap (λ s. s.seen c k) (transaction_moves t (eqb t.epoch j.epoch) (j.seen t.client t.job) refl refl) ∙ transaction_same t (eqb t.epoch j.epoch) (j.seen t.client t.job) n

  pub transaction_late : (t : Tx) (c k : ℕ) → t.epoch ≢ j.epoch → (next j (transaction t)).seen c k ≡ j.seen c k
  transaction_late t c k n = ap (λ s. s.seen c k) (transaction_moves t false (j.seen t.client t.job) (ne_eqb t.epoch j.epoch n) refl)

  pub transaction_again : (t : Tx) (c k p : ℕ) → t.epoch ≡ j.epoch → j.seen t.client t.job ≡ Some p → (next j (transaction t)).seen c k ≡ j.seen c k
  transaction_again t c k p e s = ap (λ s. s.seen c k) (transaction_moves t true (Some p) (eq-eqb t.epoch j.epoch e) s)

  pub transaction_first : (t : Tx) → t.epoch ≡ j.epoch → j.seen t.client t.job ≡ None → (next j (transaction t)).seen t.client t.job ≡ Some j.count
  transaction_first t e s =
      ap (λ s. s.seen t.client t.job) (transaction_moves t true None (eq-eqb t.epoch j.epoch e) s)
      ∙ ap (λ (f : ℕ → Option ℕ). f t.job) (upd_same j.seen t.client (upd (j.seen t.client) t.job (Some j.count))) ∙ upd_same (j.seen t.client) t.job (Some j.count)

  pub transaction_seen : (t : Tx) (o : Option ℕ) → t.epoch ≡ j.epoch → j.seen t.client t.job ≡ o → (next j (transaction t)).seen t.client t.job ≡ option_or o (Some j.count)
  transaction_seen t None e s = transaction_first t e s
  transaction_seen t (Some p) e s = transaction_again t t.client t.job p e s ∙ s

counts : (x : Judged) (m : Msg) (j : Summary) → (after_judged x m j).count ≡ j.count + 1
counts accepted m j = refl
counts stale m j = refl
counts late m j = refl
counts (again p) m j = refl
counts committed (epoch_change i e) j = refl
counts committed (transaction t) j = refl

pub next_count : (j : Summary) (m : Msg) → (next j m).count ≡ j.count + 1
next_count j m = counts (judge j m) m j

from_next : (j : Summary) (l : List Msg) (k : ℕ) (m : Msg) → nth l k ≡ Some m → from j (take (suc k) l) ≡ next (from j (take k l)) m
from_next j [] k m e = let z : ◌≡◌ {A = ℕ} 0 1 = cc in absurd (omega arith)
from_next j (x ∷ l) zero m e = ap (next j) (let s : x ≡ m = cc in s)
from_next j (x ∷ l) (suc k) m e = from_next (next j x) l k m e

pub at_next : (l : List Msg) (k : ℕ) (m : Msg) → nth l k ≡ Some m → at l (k + 1) ≡ next (at l k) m
unfolding at
at_next l k m e = rw add-one (from_next start l k m e)

pub at_start : (l : List Msg) → at l 0 ≡ start
unfolding at
at_start l = refl

-- a position below the count of ordered messages has a message
pub there : (l : List Msg) (k : ℕ) (r : Result (Bor Message) NotOrdered) → k < length l → heard r ≡ nth l k → IsOk r
there l k (Ok m) h e = refl
there l k (Err x) h e = let z : length l ≤ k = nth_none l k (sym e) in absurd (omega arith)

-- the judgement of the message that stands at a position
pub judged_is : (l : List Msg) (p : ℕ) (m : Msg) (x : Judged) → nth l p ≡ Some m → judge (at l p) m ≡ x → judged_there l p (nth l p) ≡ Some x
judged_is l p m x here is = ap (judged_there l p) here ∙ ap Some is
