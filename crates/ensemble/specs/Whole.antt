-- An ensemble of the code, as the abstract state that the acts speak of.
use Rattle.std.specs.Prelude.{◌≡◌, ℕ, ◌+◌, ◌-◌, ◌<◌, true, false, cond, ◌||◌, List, Some, None, Ok, Err, Option, Result, ◌==◌, nat_lt}
use Rattle.replica.specs.Meanings.{Meaning}
use Rattle.message.specs.Messages.{Msg}
use Rattle.broadcast.specs.Bags.{nth}
use Rattle.broadcast.specs.declared.broadcasts.Broadcast as cast
use Rattle.bank.specs.declared.banks.ReplicaBank as replicas
use Rattle.bank.specs.declared.banks.DatabaseBank as databases
use Rattle.pronto.specs.Servers.{Site, new_site}
use Rattle.pronto.specs.States.{State, no_server}
use Rattle.pronto.specs.declared.faults.ServerFault.{ServerFault}
use Rattle.pronto.specs.declared.refusals.Refusal.{Refusal}
use Rattle.pronto.specs.declared.refusals.Refusal.TheVariants as refusal
use Rattle.server.specs.declared.servers.Server.{Server}
use Rattle.server.specs.Shown.{shown}
use Rattle.ensemble.specs.declared.ensembles.Ensemble.{Ensemble}

abbrev pub shown_or : Option Server → Meaning → Site
shown_or None m = new_site
shown_or (Some v) m = shown v m

-- The server of a number from 1 to n, with the database at its place.
unfoldable pub site_at : ℕ → List Server → (ℕ → Meaning) → ℕ → Site
site_at n vs ms i = cond (i == 0 || nat_lt n i) new_site (shown_or (nth vs (i - 1)) (ms (i - 1)))

-- The state of these parts.
abbrev pub whole : List Msg → List Msg → ℕ → ℕ → ℕ → (ℕ → ℕ → ℕ) → ℕ → List Server → (ℕ → Meaning) → State
whole log waiting capacity n size units sent vs ms =
    record { log = log; waiting = waiting; capacity = capacity; count = n; databases = size; units = λ i. units (i - 1); sent = sent; servers = site_at n vs ms; spare = λ p. ms (n + p) }

module _ {B K : Type 0} (b : cast.Ghosts B) (k : replicas.Ghosts K) (d : databases.Ghosts K) where
  abbrev pub state : Ensemble B K → State
  state e =
      whole (b.log e.broadcast) (b.waiting e.broadcast) (b.capacity e.broadcast) e.count.count k.size d.units e.sent e.servers (k.meanings e.bank)

-- The place of a server that exists.
abbrev pub Place : State → ℕ → Result ℕ Refusal → Type 0
Place s i (Ok p) = (no_server s i ≡ false) × (p + 1 ≡ i) × (p < 8)
Place s i (Err e) = (no_server s i ≡ true) × (e ≡ refusal.NoServer)

-- What a server answered, a fault with the server's number.
abbrev pub passed : {T : Type 0} → ℕ → Result T ServerFault → Result T Refusal
passed i (Ok x) = Ok x
passed i (Err e) = Err (refusal.Server i e)
