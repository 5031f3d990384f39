-- What the tables tell: where none refuses, every test failed; which row a search finds; and which refusals are no tear. From their
-- definitions.
use Rattle.std.proofs.Common.{◌≡◌, ℕ, zero, suc, ◌-◌, ◌<◌, ◌≤◌, Bool, true, false, cond, eqb, ltb, List, [], ◌∷◌, drop, is_some, Some, None, Option, refl, ap, arith}
use native.Mathlib.Decide.{ℕ_discrete}
use Rattle.std.specs.List.{AllByRecursion as All}
use Rattle.std.proofs.lemmas.Bool.{and_from, and_parts, or_parts, eq-eqb, eqb-true, eqb-false, ltb-false, lt-ltb, cond-true}
use Rattle.replica.specs.declared.faults.Fault.{Fault}
use Rattle.broadcast.specs.Bags.{nth}
use Rattle.message.specs.Messages.{Msg}
use Rattle.pronto.specs.Servers.{Work}
use Rattle.pronto.specs.Refusing.{first, and_then, up, at_place, names, or_below, seek}
use Rattle.pronto.specs.States.{State, no_server, is_full, why_at, at_server}
use Rattle.pronto.specs.Acts.{place, unless_full}
use Rattle.pronto.specs.declared.faults.ServerFault.{ServerFault}
use Rattle.pronto.specs.declared.faults.ServerFault.TheVariants as fault
use Rattle.pronto.specs.declared.refusals.Refusal.{Refusal}
use Rattle.pronto.specs.declared.refusals.Refusal.TheVariants as refusal
use Rattle.pronto.proofs.Rows.{none_some}

-- options
pub some_is : {A : Type 0} (o : Option A) → is_some o ≡ true → (x : A) × (o ≡ Some x)
some_is None h = let z : ◌≡◌ {A = ℕ} 0 1 = cc in absurd (omega arith)
some_is (Some x) h = (x, refl)

pub none_is : {A : Type 0} (o : Option A) → is_some o ≡ false → o ≡ None
none_is None h = refl
none_is (Some x) h = let z : ◌≡◌ {A = ℕ} 0 1 = cc in absurd (omega arith)

-- a table that refuses nothing
pub fails : (l : List (Bool × ServerFault)) → first l ≡ None → All (λ x. x.0 ≡ false) l
fails [] e = tt
fails (x ∷ l) e = go x.0 refl (fails l)
  where
    go : (b : Bool) → x.0 ≡ b → (first l ≡ None → All (λ y. y.0 ≡ false) l) → All (λ y. y.0 ≡ false) (x ∷ l)
    go true q ih = absurd (none_some (Some x.1) x.1 (rw q at e) refl)
    go false q ih = (q, ih (rw q at e))

pub and_then_none : (o later : Option ServerFault) → and_then o later ≡ None → (o ≡ None) × (later ≡ None)
and_then_none None later h = (refl, h)
and_then_none (Some e) later h = absurd (none_some (Some e) e h refl)

-- tears
abbrev pub is_torn : ServerFault → Bool
is_torn fault.Stopped = false
is_torn fault.Running = false
is_torn fault.NoClient = false
is_torn fault.NoCell = false
is_torn fault.NotPrimary = false
is_torn fault.Barred = false
is_torn fault.AlreadyOpen = false
is_torn fault.Crowded = false
is_torn fault.NoTransaction = false
is_torn fault.Committing = false
is_torn fault.Long = false
is_torn (fault.Busy c) = false
is_torn fault.AllDelivered = false
is_torn fault.Torn = true

-- what is refused, if anything, is no tear
abbrev pub Whole : Option ServerFault → Type 0
Whole None = Unit {0}
Whole (Some e) = is_torn e ≡ false

abbrev pub WholeRefusal : Refusal → Type 0
WholeRefusal e = (i : ℕ) → e ≡ refusal.Server i fault.Torn → ⊥

pub first_whole : (l : List (Bool × ServerFault)) → All (λ x. is_torn x.1 ≡ false) l → Whole (first l)
first_whole [] h = tt
first_whole (x ∷ l) h = go x.0 (first_whole l h.1)
  where
    go : (b : Bool) → Whole (first l) → Whole (cond b (Some x.1) (first l))
    go true ih = h.0
    go false ih = ih

pub and_then_whole : (o later : Option ServerFault) → Whole o → (o ≡ None → Whole later) → Whole (and_then o later)
and_then_whole None later h k = k refl
and_then_whole (Some e) later h k = h

pub up_none : (o : Option Fault) → o ≡ None → Whole (up o)
up_none o e = rw e tt

-- why an act at a server is refused, where o is why that server refuses it
pub why_none : (s : State) (i : ℕ) (o : Option ServerFault) → why_at s i (λ v. o) ≡ None → o ≡ None
why_none s i o h = go (no_server s i) o h
  where
    go : (b : Bool) (o : Option ServerFault) → cond b (Some refusal.NoServer) (at_server i o) ≡ None → o ≡ None
    go true o e = absurd (none_some (Some refusal.NoServer) refusal.NoServer e refl)
    go false None e = refl
    go false (Some f) e = absurd (none_some (Some (refusal.Server i f)) (refusal.Server i f) e refl)

pub why_some : (s : State) (i : ℕ) (o : Option ServerFault) (e : Refusal) → (no_server s i ≡ false → Whole o) → why_at s i (λ v. o) ≡ Some e → WholeRefusal e
why_some s i o e w h = go (no_server s i) o w h
  where
    go : (b : Bool) (o : Option ServerFault) → (b ≡ false → Whole o) → cond b (Some refusal.NoServer) (at_server i o) ≡ Some e → WholeRefusal e
    go true o k is j q = let z : ◌≡◌ {A = ℕ} 0 1 = cc in omega arith
    go false None k is j q = let z : ◌≡◌ {A = ℕ} 0 1 = cc in omega arith
    go false (Some f) k is j q =
        let t : f ≡ fault.Torn = cc in
        let a : is_torn f ≡ true = ap is_torn t in
        let b = k refl in
        let z : ◌≡◌ {A = ℕ} 0 1 = cc in omega arith

pub full_none : (s : State) (i : ℕ) (o : Option Refusal) → unless_full s i o ≡ None → (o ≡ None) × (is_full s ≡ false)
full_none s i (Some e) h = absurd (none_some (Some e) e h refl)
full_none s i None h = (refl, go (is_full s) h)
  where
    go : (b : Bool) → cond b (Some (refusal.Full i)) None ≡ None → b ≡ false
    go true e = absurd (none_some (Some (refusal.Full i)) (refusal.Full i) e refl)
    go false e = refl

pub full_some : (s : State) (i : ℕ) (o : Option Refusal) (e : Refusal) → (o ≡ Some e → WholeRefusal e) → unless_full s i o ≡ Some e → WholeRefusal e
full_some s i (Some f) e k h = k h
full_some s i None e k h = go (is_full s) h
  where
    go : (b : Bool) → cond b (Some (refusal.Full i)) None ≡ Some e → WholeRefusal e
    go true is j q = let z : ◌≡◌ {A = ℕ} 0 1 = cc in omega arith
    go false is j q = let z : ◌≡◌ {A = ℕ} 0 1 = cc in omega arith

-- a server that is there has a database
pub place_free : (s : State) (i : ℕ) (o : Option Fault) → no_server s i ≡ false → s.count ≤ s.databases → at_place s.databases (place i) o ≡ o
unfolding at_place
place_free s i o there enough =
    let h = or_parts (eqb i 0) (ltb s.count i) there in
    let a = eqb-false i 0 h.0 in
    let b = ltb-false s.count i h.1 in
    let lt : i - 1 < s.databases = elim (ℕ_discrete i 0) [ yes q ↦ absurd (a q) | no nq ↦ omega arith ] in
    cond-true (ltb (i - 1) s.databases) o _ (lt-ltb (i - 1) s.databases lt)

-- searching the rows
names_true : (c k : ℕ) (w : Work) → names c k w ≡ true → (w.client ≡ c) × (w.job ≡ k)
names_true c k w h =
    let a = and_parts (eqb w.client c) (eqb w.job k) h in
    (eqb-true w.client c a.0, eqb-true w.job k a.1)

names_is : (c k : ℕ) (w : Work) → w.client ≡ c → w.job ≡ k → names c k w ≡ true
names_is c k w a b = and_from (eqb w.client c) (eqb w.job k) (eq-eqb w.client c a) (eq-eqb w.job k b)

pub record Found (rows : ℕ → Option Work) (c k p : ℕ) (w : Work) : Type 0 where
  pub here : rows p ≡ Some w
  pub client : w.client ≡ c
  pub job : w.job ≡ k

module _ (rows : ℕ → Option Work) (c k : ℕ) where
  below_some : (n : ℕ) (o : Option Work) (below : Option (ℕ × Work)) (y : ℕ × Work) → rows n ≡ o → (below ≡ Some y → Found rows c k y.0 y.1) →
      or_below c k o n below ≡ Some y → Found rows c k y.0 y.1
  below_some n None below y e ih h = ih h
  below_some n (Some w) below y e ih h = go (names c k w) refl
    where
      go : (b : Bool) → names c k w ≡ b → Found rows c k y.0 y.1
      go true q =
          let z : Some (n, w) ≡ Some y = rw q at h in
          let x : (n, w) ≡ y = cc in
          let a = names_true c k w q in
          rw (← x) (record { here = e; client = a.0; job = a.1 })
      go false q = ih (rw q at h)

  pub seek_some : (n : ℕ) (y : ℕ × Work) → seek rows c k n ≡ Some y → Found rows c k y.0 y.1
  unfolding seek
  seek_some zero y h = absurd (none_some None y refl h)
  seek_some (suc n) y h = below_some n (rows n) (seek rows c k n) y refl (seek_some n y) h

  below_none : (n : ℕ) (o : Option Work) (below : Option (ℕ × Work)) → or_below c k o n below ≡ None → (below ≡ None) × ((w : Work) → o ≡ Some w → names c k w ≡ false)
  below_none n None below h = (h, λ w e. absurd (none_some None w refl e))
  below_none n (Some x) below h = go (names c k x) refl
    where
      go : (b : Bool) → names c k x ≡ b → (below ≡ None) × ((w : Work) → Some x ≡ Some w → names c k w ≡ false)
      go true q = absurd (none_some (Some (n, x)) (n, x) (rw q at h) refl)
      go false q = (rw q at h, λ w e. let y : x ≡ w = cc in rw y at q)

  pub seek_none : (n : ℕ) → seek rows c k n ≡ None → (p : ℕ) (w : Work) → p < n → Found rows c k p w → ⊥
  unfolding seek
  seek_none zero h p w lt f = omega arith
  seek_none (suc n) h p w lt f =
      let b = below_none n (rows n) (seek rows c k n) h in
      elim (ℕ_discrete p n) [
        | yes q ↦
            let r : rows n ≡ Some w = rw q at f.here in
            let x = b.1 w r in
            let y = names_is c k w f.client f.job in
            let z : ◌≡◌ {A = ℕ} 0 1 = cc in omega arith
        | no nq ↦ seek_none n b.0 p w (omega arith) f
      ]

-- the message at a position
pub nth_drop : (l : List Msg) (p : ℕ) (m : Msg) → nth l p ≡ Some m → (rest : List Msg) × (drop p l ≡ m ∷ rest)
nth_drop [] p m e = absurd (none_some None m refl e)
nth_drop (x ∷ l) zero m e = let y : x ≡ m = cc in (l, ap (λ z. z ∷ l) y)
nth_drop (x ∷ l) (suc p) m e = nth_drop l p m e
