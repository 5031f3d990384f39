-- The state of an ensemble, and an act at one of its servers.
use Rattle.std.specs.Prelude.{◌≡◌, ℕ, ◌+◌, Bool, cond, ◌||◌, List, [], length, Some, None, Ok, Err, Option, Result, ◌==◌, nat_le, nat_lt}
use Rattle.replica.specs.Meanings.{Meaning, upd}
use Rattle.message.specs.Messages.{Msg}
use Rattle.pronto.specs.Servers.{Site, new_site}
use Rattle.pronto.specs.declared.faults.ServerFault.{ServerFault}
use Rattle.pronto.specs.declared.refusals.Refusal.{Refusal}
use Rattle.pronto.specs.declared.refusals.Refusal.TheVariants as refusal

-- The log, the waiting messages and the broadcast's capacity; how many servers and how many databases there are; the unit of each
-- server's cells; the count of messages sent; the servers by number, from 1; and the databases that no server has.
pub record State : Type 0 where
  pub log : List Msg
  pub waiting : List Msg
  pub capacity : ℕ
  pub count : ℕ
  pub databases : ℕ
  pub units : ℕ → ℕ → ℕ
  pub sent : ℕ
  pub servers : ℕ → Site
  pub spare : ℕ → Meaning

-- A new ensemble.
abbrev pub new_state : ℕ → ℕ → ℕ → (ℕ → ℕ → ℕ) → (ℕ → Meaning) → State
new_state capacity count databases units spare =
    record { log = []; waiting = []; capacity = capacity; count = count; databases = databases; units = units; sent = 0; servers = λ i. new_site; spare = spare }

-- There is no server of this number.
abbrev pub no_server : State → ℕ → Bool
no_server s i = i == 0 || nat_lt s.count i

-- Ordered and waiting messages have reached the capacity.
abbrev pub is_full : State → Bool
is_full s = nat_le s.capacity (length s.log + length s.waiting)

abbrev pub with_servers : State → (ℕ → Site) → State
with_servers s servers =
    record { log = s.log; waiting = s.waiting; capacity = s.capacity; count = s.count; databases = s.databases; units = s.units; sent = s.sent; servers = servers; spare = s.spare }

-- Server i is now w, and nothing else has changed.
abbrev pub change : State → ℕ → Site → State
change s i w = with_servers s (upd s.servers i w)

abbrev pub with_messages : State → List Msg → List Msg → ℕ → State
with_messages s log waiting sent =
    record { log = log; waiting = waiting; capacity = s.capacity; count = s.count; databases = s.databases; units = s.units; sent = sent; servers = s.servers; spare = s.spare }

-- An act is refused exactly where there is a refusal, and then nothing has changed; otherwise its answer is right, and `done` is what it leaves.
abbrev pub Did : {S T E : Type 0} → Result T E → Option E → (T → Type 0) → S → S → S → Type 0
Did (Ok x) why Right before after done = (why ≡ None) × Right x × (after ≡ done)
Did (Err e) why Right before after done = (why ≡ Some e) × (after ≡ before)

-- A server's fault, passed up with the server.
abbrev pub at_server : ℕ → Option ServerFault → Option Refusal
at_server i None = None
at_server i (Some e) = Some (refusal.Server i e)

-- Why an act at server i is refused: there is no such server, or that server refuses it.
abbrev pub why_at : State → ℕ → (Site → Option ServerFault) → Option Refusal
why_at s i why = cond (no_server s i) (Some refusal.NoServer) (at_server i (why (s.servers i)))

-- An act at server i, which changes no other.
abbrev pub At : {T : Type 0} → (Site → Option ServerFault) → (Site → T → Type 0) → (Site → Site) → State → ℕ → Result T Refusal → State → Type 0
At why Right done s i r s' = Did r (why_at s i why) (Right (s.servers i)) s s' (change s i (done (s.servers i)))
