-- Questions: what each tells, and when it is turned down.
use Rattle.std.specs.Prelude.{◌≡◌, ℕ, Bool, cond, Some, None, Ok, Err, Option, Result, nat_lt}
use Rattle.std.specs.Borrow.{Bor}
use Rattle.message.specs.declared.messages.Message.{Message}
use Rattle.message.specs.Messages.{msg_of}
use Rattle.broadcast.specs.Bags.{nth}
use Rattle.pronto.specs.Servers.{Site}
use Rattle.pronto.specs.Refusing.{find}
use Rattle.pronto.specs.States.{State, no_server}
use Rattle.pronto.specs.declared.faults.ServerFault.TheVariants as fault
use Rattle.pronto.specs.declared.refusals.Refusal.{Refusal}
use Rattle.pronto.specs.declared.refusals.Refusal.TheVariants as refusal
use Rattle.server.specs.declared.servers.Server.{Server}
use Rattle.server.specs.declared.states.State as code
use Rattle.server.specs.Looking.{state_told, state_found}
use Rattle.server.specs.Shown.{shown}

-- A question is turned down exactly where there is a refusal; otherwise what it tells is right.
abbrev pub Tells : {T : Type 0} → Result T Refusal → Option Refusal → (T → Type 0) → Type 0
Tells (Ok x) why Right = (why ≡ None) × Right x
Tells (Err e) why Right = why ≡ Some e

-- There is such a server, and then nothing else is amiss.
abbrev pub if_server : State → ℕ → Option Refusal → Option Refusal
if_server s i later = cond (no_server s i) (Some refusal.NoServer) later

-- The code's server is the one of this number, whatever its database means.
abbrev pub Stands : Site → Server → Type 0
Stands u v = (v.running ≡ u.running) × (v.epoch ≡ u.epoch) × (v.delivered ≡ u.delivered) × (shown v u.db ≡ u)

-- The server of a number.
abbrev pub Asked : State → ℕ → Result (Bor Server) Refusal → Type 0
Asked s i r = Tells r (if_server s i None) (λ v. Stands (s.servers i) v.now)

abbrev pub TellsServer : {T : Type 0} → State → ℕ → (Site → T) → Result T Refusal → Type 0
TellsServer s i f r = Tells r (if_server s i None) (λ x. x ≡ f (s.servers i))

abbrev pub TellsCell : State → ℕ → ℕ → Result ℕ Refusal → Type 0
TellsCell s i c r = Tells r (if_server s i (cond (nat_lt c 64) None (Some (refusal.Server i fault.NoCell)))) (λ x. x ≡ (s.servers i).db.cells c)

abbrev pub if_told : Option Bool → Option Refusal → Option Refusal
if_told None why = why
if_told (Some b) why = None

abbrev pub TellsTransaction : State → ℕ → ℕ → ℕ → Result code.State Refusal → Type 0
TellsTransaction s i c k r =
    Tells r
    (if_server s i (cond (nat_lt 15 c) (Some (refusal.Server i fault.NoClient)) (if_told (state_found (find (s.servers i) c k)) (Some (refusal.Server i fault.NoTransaction)))))
    (λ x. state_told (Some x) ≡ state_found (find (s.servers i) c k))

abbrev pub TellsMessage : State → ℕ → Result (Bor Message) Refusal → Type 0
TellsMessage s p (Ok m) = nth s.log p ≡ Some (msg_of m.now)
TellsMessage s p (Err e) = (nth s.log p ≡ None) × (e ≡ refusal.NotOrdered)
