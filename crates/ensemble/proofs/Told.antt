-- Questions, from what the code read at the server's place; and a new ensemble.
use Rattle.std.proofs.Common.{◌≡◌, ℕ, zero, suc, ◌+◌, ◌-◌, ◌≤◌, Bool, true, false, cond, ◌||◌, eqb, ltb, List, [], replicate, Some, None, Option, Ok, Err, Result, sym, refl, ap, ◌∙◌, arith, ltb-false}
use mathlib.Core.Path.{fun_ext}
use Rattle.std.proofs.lemmas.Bool.{cond-true, cond-false, lt-ltb, le-ltb, true≢false}
use Rattle.replica.specs.Meanings.{Meaning}
use Rattle.replica.specs.Calls.{cleared}
use Rattle.std.specs.Option.{ok_or}
use Rattle.std.specs.Result.{result_ok}
use Rattle.replica.specs.Outcomes.{Shown}
use Rattle.replica.specs.declared.faults.Fault.{Fault}
use Rattle.replica.specs.declared.faults.Fault.TheVariants.{NoCell}
use Rattle.replica.specs.Refusals.{cell_refusal}
use Rattle.message.specs.Messages.{Msg}
use Rattle.broadcast.specs.Bags.{nth}
use Rattle.broadcast.proofs.Positions.{nth_replicate}
use Rattle.bank.specs.Places.{cleared_below}
use Rattle.pronto.specs.Servers.{Site, new_site, with_db}
use Rattle.pronto.specs.States.{State, no_server, new_state}
use Rattle.pronto.specs.Refusing.{find}
use Rattle.pronto.specs.declared.faults.ServerFault.TheVariants as fault
use Rattle.pronto.specs.declared.refusals.Refusal.{Refusal}
use Rattle.pronto.specs.declared.refusals.Refusal.TheVariants as refusal
use Rattle.server.specs.declared.servers.Server.{Server}
use Rattle.server.specs.declared.states.State as code
use Rattle.server.specs.Looking.{state_told, state_found}
use Rattle.server.specs.Shown.{shown}
use Rattle.ensemble.specs.Whole.{shown_or, site_at, whole}
use Rattle.ensemble.specs.Asking.{if_server, if_told, TellsCell, TellsTransaction}

-- a server that exists is told of
pub known_server : (s : State) (i : ℕ) (later : Option Refusal) → no_server s i ≡ false → if_server s i later ≡ later
known_server s i later known = cond-false (no_server s i) (Some refusal.NoServer) later known

-- a server that was found is told of
pub told_server : (s : State) (i : ℕ) (later : Option Refusal) → if_server s i None ≡ None → if_server s i later ≡ later
told_server s i later told = by (no_server s i) told
  where
    by : (b : Bool) → cond b (Some refusal.NoServer) None ≡ None → cond b (Some refusal.NoServer) later ≡ later
    by true h = let z : ◌≡◌ {A = ℕ} 0 1 = cc in absurd (omega arith)
    by false h = refl

or_both : (a b : Bool) → (a || b) ≡ false → (a ≡ false) × (b ≡ false)
or_both true b e = absurd (true≢false e)
or_both false b e = (refl, e)

module _ (n : ℕ) (few : n ≤ 8) (v : Server) (ms : ℕ → Meaning) (new : (m : Meaning) → shown v m ≡ with_db new_site m) where
  new_at : (i : ℕ) (b : Bool) → (eqb i 0 || ltb n i) ≡ b → cond b new_site (shown_or (nth (replicate 8 v) (i - 1)) (cleared_below n ms (i - 1))) ≡ new_site
  new_at i true e = refl
  new_at zero false e = absurd (true≢false e)
  new_at (suc k) false e =
      let h : suc k ≤ n = ltb-false n (suc k) (or_both (eqb (suc k) 0) (ltb n (suc k)) e).1 in
      let back : suc k - 1 ≡ k = omega arith in
      ap (λ q. shown_or (nth (replicate 8 v) q) (cleared_below n ms q)) back
      ∙ ap (λ o. shown_or o (cleared_below n ms k)) (nth_replicate 8 k v (omega arith))
      ∙ new (cleared_below n ms k)
      ∙ ap (with_db new_site) (cond-true (ltb k n) cleared (ms k) (lt-ltb k n (omega arith)))

  new_servers : site_at n (replicate 8 v) (cleared_below n ms) ≡ (λ i. new_site)
  unfolding site_at
  new_servers = fun_ext (λ i. new_at i (eqb i 0 || ltb n i) refl)

  new_spare : ◌≡◌ {A = ℕ → Meaning} (λ p. cleared_below n ms (n + p)) (λ p. ms (n + p))
  new_spare = fun_ext (λ p. cond-false (ltb (n + p) n) cleared (ms (n + p)) (le-ltb (n + p) n (omega arith)))

  -- the whole, cleared
  pub new_whole : (log waiting : List Msg) (capacity capacity' size : ℕ) (units : ℕ → ℕ → ℕ) (ns : ℕ → Meaning) → log ≡ [] → waiting ≡ [] → capacity ≡ capacity' → ns ≡ cleared_below n ms →
      whole log waiting capacity n size units 0 (replicate 8 v) ns ≡ new_state capacity' n size (λ i. units (i - 1)) (λ p. ms (n + p))
  new_whole log waiting capacity capacity' size units ns a b c d =
      let F : List Msg → List Msg → ℕ → (ℕ → Site) → (ℕ → Meaning) → State =
      λ l w k f g. record { log = l; waiting = w; capacity = k; count = n; databases = size; units = λ i. units (i - 1); sent = 0; servers = f; spare = g } in
      ap (λ x. whole log waiting capacity n size units 0 (replicate 8 v) x) d
      ∙ ap (λ x. F x waiting capacity (site_at n (replicate 8 v) (cleared_below n ms)) (λ p. cleared_below n ms (n + p))) a
      ∙ ap (λ x. F [] x capacity (site_at n (replicate 8 v) (cleared_below n ms)) (λ p. cleared_below n ms (n + p))) b
      ∙ ap (λ x. F [] [] x (site_at n (replicate 8 v) (cleared_below n ms)) (λ p. cleared_below n ms (n + p))) c
      ∙ ap (λ x. F [] [] capacity' x (λ p. cleared_below n ms (n + p))) new_servers
      ∙ ap (F [] [] capacity' (λ i. new_site)) new_spare

-- a cell that was told exists
pub cell_told : (c : ℕ) (e : Refusal) → cell_refusal c ≡ None → cond (ltb c 64) None (Some e) ≡ None
cell_told c e told = by (ltb c 64) told
  where
    by : (b : Bool) → cond b None (Some NoCell) ≡ None → cond b None (Some e) ≡ None
    by true h = refl
    by false h = let z : ◌≡◌ {A = ℕ} 0 1 = cc in absurd (omega arith)

-- a cell as the bank told it, or that there is none
pub told_cell : (s : State) (i c x : ℕ) (r : Result ℕ Fault) → no_server s i ≡ false → Shown r (cell_refusal c) x → x ≡ (s.servers i).db.cells c → TellsCell s i c (ok_or (result_ok r) (refusal.Server i fault.NoCell))
told_cell s i c x (Ok v) known told at =
    (known_server s i (cond (ltb c 64) None (Some (refusal.Server i fault.NoCell))) known ∙ cell_told c (refusal.Server i fault.NoCell) told.0, told.1 ∙ at)
told_cell s i c x (Err f) known told at = known_server s i (cond (ltb c 64) None (Some (refusal.Server i fault.NoCell))) known ∙ by (ltb c 64) told
  where
    by : (b : Bool) → cond b None (Some NoCell) ≡ Some f → cond b None (Some (refusal.Server i fault.NoCell)) ≡ Some (refusal.Server i fault.NoCell)
    by true h = let z : ◌≡◌ {A = ℕ} 0 1 = cc in absurd (omega arith)
    by false h = refl

-- a transaction as its server told it, or that there is none
pub told_state : (s : State) (i k j : ℕ) (o : Option code.State) → if_server s i None ≡ None → k ≤ 15 → state_told o ≡ state_found (find (s.servers i) k j) →
    TellsTransaction s i k j (ok_or o (refusal.Server i fault.NoTransaction))
told_state s i k j o asked client same = by o same
  where
    later : Option Refusal
    later = if_told (state_found (find (s.servers i) k j)) (Some (refusal.Server i fault.NoTransaction))

    reached : if_server s i (cond (ltb 15 k) (Some (refusal.Server i fault.NoClient)) later) ≡ later
    reached = told_server s i (cond (ltb 15 k) (Some (refusal.Server i fault.NoClient)) later) asked ∙ cond-false (ltb 15 k) (Some (refusal.Server i fault.NoClient)) later (le-ltb 15 k client)

    by : (o : Option code.State) → state_told o ≡ state_found (find (s.servers i) k j) → TellsTransaction s i k j (ok_or o (refusal.Server i fault.NoTransaction))
    by None same = reached ∙ ap (λ x. if_told x (Some (refusal.Server i fault.NoTransaction))) (sym same)
    by (Some v) same = (reached ∙ ap (λ x. if_told x (Some (refusal.Server i fault.NoTransaction))) (sym same), same)
