-- An act at one server, as an act on the whole: no other server, and no other database, changes.
use Rattle.std.proofs.Common.{◌≡◌, ℕ, zero, suc, ◌+◌, ◌-◌, ◌<◌, ◌≤◌, Bool, true, false, cond, ◌||◌, eqb, ltb, ◌≢◌, List, [], ◌∷◌, length, get_or, set, Some, Ok, Err, Option, Result, sym, refl, ap, ◌∙◌, subst, arith, ltb-false}
use mathlib.Core.Path.{fun_ext}
use native.Mathlib.Decide.{ℕ_discrete}
use Rattle.std.proofs.lemmas.Bool.{cond-true, cond-false, eq-eqb, true≢false}
use Rattle.replica.specs.Meanings.{Meaning, upd}
use Rattle.replica.proofs.Updates.{upd_same, upd_other, upd_self}
use Rattle.message.specs.Messages.{Msg}
use Rattle.broadcast.specs.Bags.{nth}
use Rattle.broadcast.proofs.Positions.{nth_is, nth_set_same, nth_set_other}
use Rattle.broadcast.specs.declared.broadcasts.Broadcast as cast
use Rattle.bank.specs.declared.banks.ReplicaBank as replicas
use Rattle.bank.specs.declared.banks.DatabaseBank as databases
use Rattle.pronto.specs.Servers.{Site, new_site}
use Rattle.pronto.specs.States.{State, no_server, with_servers, at_server, At}
use Rattle.pronto.specs.declared.faults.ServerFault.{ServerFault}
use Rattle.pronto.specs.declared.refusals.Refusal.TheVariants as refusal
use Rattle.server.specs.declared.servers.Server.{Server}
use Rattle.server.specs.Shown.{shown}
use Rattle.server.specs.Acting.{Settled}
use Rattle.ensemble.specs.declared.ensembles.Ensemble.{Ensemble}
use Rattle.ensemble.specs.Whole.{shown_or, site_at, whole, state, Place, passed}

or_second : (a b : Bool) → (a || b) ≡ false → b ≡ false
or_second true b e = absurd (true≢false e)
or_second false b e = e

pos : (k : ℕ) → k ≢ 0 → 0 < k
pos zero h = absurd (h refl)
pos (suc k) h = omega arith

-- server i of n stands at place p
module _ (n : ℕ) (vs : List Server) (ms : ℕ → Meaning) (i p : ℕ) (d : Server) (known : (eqb i 0 || ltb n i) ≡ false) (is : p + 1 ≡ i) (low : p < length vs) where
  before : i - 1 ≡ p
  before = omega arith

  below : p < n
  below = let h : i ≤ n = ltb-false n i (or_second (eqb i 0) (ltb n i) known) in omega arith

  pub site_here : site_at n vs ms i ≡ shown (get_or vs p d) (ms p)
  unfolding site_at
  site_here =
      cond-false (eqb i 0 || ltb n i) new_site (shown_or (nth vs (i - 1)) (ms (i - 1))) known
      ∙ ap (λ q. shown_or (nth vs q) (ms q)) before ∙ ap (λ o. shown_or o (ms p)) (nth_is vs p d low)

  module _ (w : Server) (ns : ℕ → Meaning) (others : ns ≡ upd ms p (ns p)) where
    at_other : (j : ℕ) → j ≢ i → (b : Bool) → (eqb j 0 || ltb n j) ≡ b →
        cond b new_site (shown_or (nth (set vs p w) (j - 1)) (ns (j - 1))) ≡ cond b new_site (shown_or (nth vs (j - 1)) (ms (j - 1)))
    at_other j ne true e = refl
    at_other j ne false e =
        let z : j ≢ 0 = (λ q. true≢false (sym (ap (λ b. b || ltb n j) (eq-eqb j 0 q)) ∙ e)) in
        let m : j - 1 ≢ p = (λ q. ne (let r : j ≡ i = omega (arith, q, pos j z, is) in r)) in
        ap (λ o. shown_or o (ns (j - 1))) (nth_set_other vs p (j - 1) w m)
        ∙ ap (shown_or (nth vs (j - 1))) (ap (λ (f : ℕ → Meaning). f (j - 1)) others ∙ upd_other ms p (ns p) (j - 1) m)

    pub sites_after : site_at n (set vs p w) ns ≡ upd (site_at n vs ms) i (shown w (ns p))
    unfolding site_at
    sites_after =
        fun_ext (λ j. elim (ℕ_discrete j i) [
          | yes e ↦ ap (site_at n (set vs p w) ns) e
              ∙ cond-false (eqb i 0 || ltb n i) new_site (shown_or (nth (set vs p w) (i - 1)) (ns (i - 1))) known
              ∙ ap (λ q. shown_or (nth (set vs p w) q) (ns q)) before
              ∙ ap (λ o. shown_or o (ns p)) (nth_set_same vs p w low)
              ∙ sym (ap (upd (site_at n vs ms) i (shown w (ns p))) e ∙ upd_same (site_at n vs ms) i (shown w (ns p)))
          | no ne ↦ at_other j ne (eqb j 0 || ltb n j) refl ∙ sym (upd_other (site_at n vs ms) i (shown w (ns p)) j ne)
        ])

    pub spare_after : ◌≡◌ {A = ℕ → Meaning} (λ q. ns (n + q)) (λ q. ms (n + q))
    spare_after = fun_ext (λ q. ap (λ (f : ℕ → Meaning). f (n + q)) others ∙ upd_other ms p (ns p) (n + q) (λ e. let l = below in omega (arith, e)))

module _ (log waiting : List Msg) (capacity n size : ℕ) (units : ℕ → ℕ → ℕ) (sent : ℕ) (vs : List Server) (ms : ℕ → Meaning) (i p : ℕ) (d : Server) where
  abbrev S : State
  S = whole log waiting capacity n size units sent vs ms

  -- the parts that an act at one server changes
  abbrev build : (ℕ → Site) → (ℕ → Meaning) → State
  build f g = record { log = log; waiting = waiting; capacity = capacity; count = n; databases = size; units = λ i. units (i - 1); sent = sent; servers = f; spare = g }

  module _ (place : Place (whole log waiting capacity n size units sent vs ms) i (Ok p)) (eight : length vs ≡ 8) where
    low : p < length vs
    low = omega (arith, place.2)

    pub site_of : site_at n vs ms i ≡ shown (get_or vs p d) (ms p)
    site_of = site_here n vs ms i p d place.0 place.1 low

    pub state_after : (w : Server) (ns : ℕ → Meaning) → ns ≡ upd ms p (ns p) →
        whole log waiting capacity n size units sent (set vs p w) ns ≡ with_servers (whole log waiting capacity n size units sent vs ms) (upd (site_at n vs ms) i (shown w (ns p)))
    state_after w ns others =
        ap (λ f. build f (λ q. ns (n + q))) (sites_after n vs ms i p d place.0 place.1 low w ns others)
        ∙ ap (build (upd (site_at n vs ms) i (shown w (ns p)))) (spare_after n vs ms i p d place.0 place.1 low w ns others)

    module _ {T : Type 0} (why : ℕ → Site → Option ServerFault) (Right : ℕ → Site → T → Type 0) (done : ℕ → Site → Site) (w : Server) (ns : ℕ → Meaning) where
      acts_here : (r : Result T ServerFault) → Settled r (why p) (Right p) (done p) p (get_or vs p d) ms w ns →
          At (why p) (Right p) (done p) S i (passed i r) (whole log waiting capacity n size units sent (set vs p w) ns)
      acts_here (Ok x) told = (
        cond-false (no_server S i) (Some refusal.NoServer) (at_server i (why p (S.servers i))) place.0 ∙ ap (at_server i) (ap (why p) site_of ∙ told.0.0),
        subst (λ (u : Site). Right p u x) (sym site_of) told.0.1,
        state_after w ns told.1 ∙ ap (λ v. with_servers S (upd S.servers i v)) (told.0.2 ∙ ap (done p) (sym site_of)),
      )
      acts_here (Err e) told = (
        cond-false (no_server S i) (Some refusal.NoServer) (at_server i (why p (S.servers i))) place.0 ∙ ap (at_server i) (ap (why p) site_of ∙ told.0.0),
        state_after w ns told.1 ∙ ap (λ v. with_servers S (upd S.servers i v)) (told.0.1 ∙ sym site_of) ∙ ap (with_servers S) (upd_self S.servers i),
      )

      -- the same, with the place as the definitions of the acts have it
      pub acts : (r : Result T ServerFault) → Settled r (why p) (Right p) (done p) p (get_or vs p d) ms w ns →
          At (why (i - 1)) (Right (i - 1)) (done (i - 1)) (whole log waiting capacity n size units sent vs ms) i (passed i r) (whole log waiting capacity n size units sent (set vs p w) ns)
      acts r told =
          let back : p ≡ i - 1 = omega (arith, place.1) in
          let G : ℕ → Type 0 = λ q. At (why q) (Right q) (done q) S i (passed i r) (whole log waiting capacity n size units sent (set vs p w) ns) in
          subst G back (acts_here r told)

-- the same, of an ensemble
module _ {B K : Type 0} (b : cast.Ghosts B) (k : replicas.Ghosts K) (u : databases.Ghosts K) (e : Ensemble B K) (i p : ℕ) (d : Server) (place : Place (state b k u e) i (Ok p)) (eight : length e.servers ≡ 8) where
  pub site_there : site_at e.count.count e.servers (k.meanings e.bank) i ≡ shown (get_or e.servers p d) (k.meanings e.bank p)
  site_there = site_of (b.log e.broadcast) (b.waiting e.broadcast) (b.capacity e.broadcast) e.count.count k.size u.units e.sent e.servers (k.meanings e.bank) i p d place eight

  -- an act at the server there, which leaves this server and this bank
  pub acted : {T : Type 0} (why : ℕ → Site → Option ServerFault) (Right : ℕ → Site → T → Type 0) (done : ℕ → Site → Site) (w : Server) (bank : K) (r : Result T ServerFault) →
      Settled r (why p) (Right p) (done p) p (get_or e.servers p d) (k.meanings e.bank) w (k.meanings bank) →
      At (why (i - 1)) (Right (i - 1)) (done (i - 1)) (state b k u e) i (passed i r)
      (whole (b.log e.broadcast) (b.waiting e.broadcast) (b.capacity e.broadcast) e.count.count k.size u.units e.sent (set e.servers p w) (k.meanings bank))
  acted why Right done w bank =
      acts (b.log e.broadcast) (b.waiting e.broadcast) (b.capacity e.broadcast) e.count.count k.size u.units e.sent e.servers (k.meanings e.bank) i p d place eight why Right done w (k.meanings bank)

-- a number that is no server's shows a new server
pub nobody_there : (n : ℕ) (vs : List Server) (ms : ℕ → Meaning) (i : ℕ) → (eqb i 0 || ltb n i) ≡ true → site_at n vs ms i ≡ new_site
unfolding site_at
nobody_there n vs ms i none = cond-true (eqb i 0 || ltb n i) new_site (shown_or (nth vs (i - 1)) (ms (i - 1))) none

-- the database of a server that exists
pub db_of : (n : ℕ) (vs : List Server) (ms : ℕ → Meaning) (i p : ℕ) → (eqb i 0 || ltb n i) ≡ false → p + 1 ≡ i → p < length vs → (site_at n vs ms i).db ≡ ms p
unfolding site_at
db_of n vs ms i p known is low =
    ap (λ (v : Site). v.db) (cond-false (eqb i 0 || ltb n i) new_site (shown_or (nth vs (i - 1)) (ms (i - 1))) known ∙ ap (λ q. shown_or (nth vs q) (ms q)) (let e : i - 1 ≡ p = omega arith in e))
    ∙ by vs p low (ms p)
  where
    by : (l : List Server) (k : ℕ) → k < length l → (m : Meaning) → (shown_or (nth l k) m).db ≡ m
    by [] k h m = absurd (omega arith)
    by (v ∷ l) zero h m = refl
    by (v ∷ l) (suc k) h m = by l k (omega arith) m
