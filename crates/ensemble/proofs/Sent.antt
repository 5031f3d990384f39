-- Acts that send a message: why one is refused, and the whole after an offer.
use Rattle.std.proofs.Common.{◌≡◌, ℕ, ◌+◌, ◌%◌, ◌^◌, ◌<◌, ◌≤◌, Bool, true, false, cond, List, length, Some, None, Ok, Err, Option, Result, sym, refl, ap, ◌∙◌, subst, arith}
use Rattle.std.proofs.lemmas.Bool.{cond-true, cond-false, le-leb, lt-leb}
use Rattle.message.specs.Messages.{Msg}
use Rattle.pronto.specs.Servers.{Site}
use Rattle.pronto.specs.States.{State, no_server, is_full, with_messages, at_server, why_at}
use Rattle.broadcast.specs.Bags.{Inserted}
use Rattle.pronto.specs.Acts.{unless_full}
use Rattle.pronto.specs.Acts as acts
use Rattle.ensemble.specs.Sending.{Sends}
use Rattle.pronto.specs.declared.faults.ServerFault.{ServerFault}
use Rattle.pronto.specs.declared.refusals.Refusal.{Refusal}
use Rattle.pronto.specs.declared.refusals.Refusal.TheVariants as refusal
use Rattle.server.specs.Looking.{Looks}
use Rattle.ensemble.specs.Whole.{passed}
use Rattle.ensemble.specs.Asking.{if_server}

-- what a server answered when it looked, from what was passed up
module _ {T : Type 0} (i : ℕ) (why : Option ServerFault) (Right : T → Type 0) where
  pub looked_refused : (r : Result T ServerFault) (e : Refusal) → Looks r why Right → Err e ≡ passed i r → (f : ServerFault) × (why ≡ Some f) × (e ≡ refusal.Server i f)
  looked_refused (Ok x) e look h = let z : ◌≡◌ {A = ℕ} 0 1 = cc in absurd (omega arith)
  looked_refused (Err f) e look h = (f, look, cc)

  pub looked_found : (r : Result T ServerFault) (x : T) → Looks r why Right → Ok x ≡ passed i r → (why ≡ None) × Right x
  looked_found (Ok y) x look h = (look.0, let e : y ≡ x = cc in subst Right e look.1)
  looked_found (Err f) x look h = let z : ◌≡◌ {A = ℕ} 0 1 = cc in absurd (omega arith)

-- a server that was found exists
pub server_known : (s : State) (i : ℕ) → if_server s i None ≡ None → no_server s i ≡ false
server_known s i told = by (no_server s i) told
  where
    by : (b : Bool) → cond b (Some refusal.NoServer) None ≡ None → b ≡ false
    by true h = let z : ◌≡◌ {A = ℕ} 0 1 = cc in absurd (omega arith)
    by false h = refl

module _ (s : State) (i : ℕ) (why : Site → Option ServerFault) where
  pub sends_nobody : (e : Refusal) → no_server s i ≡ true → e ≡ refusal.NoServer → unless_full s i (why_at s i why) ≡ Some e
  sends_nobody e none is = ap (unless_full s i) (cond-true (no_server s i) (Some refusal.NoServer) (at_server i (why (s.servers i))) none) ∙ ap Some (sym is)

  module _ (v : Site) (known : no_server s i ≡ false) (site : s.servers i ≡ v) where
    why_there : why_at s i why ≡ at_server i (why v)
    why_there = cond-false (no_server s i) (Some refusal.NoServer) (at_server i (why (s.servers i))) known ∙ ap (λ (u : Site). at_server i (why u)) site

    pub sends_refused : (f : ServerFault) → why v ≡ Some f → unless_full s i (why_at s i why) ≡ Some (refusal.Server i f)
    sends_refused f h = ap (unless_full s i) (why_there ∙ ap (at_server i) h)

    pub sends_full : why v ≡ None → s.capacity ≤ length s.log + length s.waiting → unless_full s i (why_at s i why) ≡ Some (refusal.Full i)
    sends_full h full = ap (unless_full s i) (why_there ∙ ap (at_server i) h) ∙ cond-true (is_full s) (Some (refusal.Full i)) None (le-leb s.capacity (length s.log + length s.waiting) full)

    pub sends_free : why v ≡ None → length s.log + length s.waiting < s.capacity → unless_full s i (why_at s i why) ≡ None
    sends_free h room = ap (unless_full s i) (why_there ∙ ap (at_server i) h) ∙ cond-false (is_full s) (Some (refusal.Full i)) None (lt-leb s.capacity (length s.log + length s.waiting) room)

-- the broadcast has these messages now, and its capacity is the same
module _ (s : State) (log' waiting' : List Msg) (capacity' : ℕ) (l : log' ≡ s.log) (k : capacity' ≡ s.capacity) where
  abbrev state_now : List Msg → List Msg → ℕ → ℕ → State
  state_now log waiting capacity sent =
      record { log = log; waiting = waiting; capacity = capacity; count = s.count; databases = s.databases; units = s.units; sent = sent; servers = s.servers; spare = s.spare }

  pub offered : (n : ℕ) → state_now log' waiting' capacity' n ≡ with_messages s s.log waiting' n
  offered n = ap (λ x. state_now x waiting' capacity' n) l ∙ ap (λ x. state_now s.log waiting' x n) k

  pub not_offered : waiting' ≡ s.waiting → state_now log' waiting' capacity' s.sent ≡ s
  not_offered w = offered s.sent ∙ ap (λ x. state_now s.log x s.capacity s.sent) w

  pub sent_now : (n m : ℕ) → n ≡ m → state_now log' waiting' capacity' n ≡ with_messages s s.log waiting' m
  sent_now n m h = ap (state_now log' waiting' capacity') h ∙ offered m

  pub not_sent : (n : ℕ) → waiting' ≡ s.waiting → n ≡ s.sent → state_now log' waiting' capacity' n ≡ s
  not_sent n w h = ap (state_now log' waiting' capacity') h ∙ not_offered w

  -- an act of server i that sends a message and changes no server
  pub sent_or_full : (i n : ℕ) (m m' : Msg) (v : Site) (why : Site → Option ServerFault) → no_server s i ≡ false → s.servers i ≡ v → why v ≡ None → m' ≡ m → (r : Result (Unit {0}) Refusal) →
      Sends i m' s.capacity s.log s.waiting waiting' s.sent n r → acts.Sends s m s.servers (unless_full s i (why_at s i why)) r (state_now log' waiting' capacity' n)
  sent_or_full i n m m' v why known site none same (Ok u) o =
      let F : Msg → Type 0 = λ x. Inserted x s.waiting waiting' in
      (sends_free s i why v known site none o.0, subst F same o.1, sent_now n ((s.sent + 1) % 2 ^ 64) o.2)
  sent_or_full i n m m' v why known site none same (Err e) o = (sends_full s i why v known site none o.0 ∙ ap Some (sym o.3), not_sent n o.1 o.2)
