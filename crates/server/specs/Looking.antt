-- What a server finds when it looks before an act.
use Rattle.std.specs.Prelude.{◌≡◌, ◌⊎◌, ℕ, ◌<◌, ◌≤◌, Bool, true, false, not, List, length, is_some, Some, None, Ok, Err, Option, Result}
use Rattle.std.specs.Borrow.{Bor}
use Rattle.statement.specs.declared.operation.Operation.{Operation}
use Rattle.statement.specs.declared.checked.Statement.{Statement}
use Rattle.statement.specs.Making.{checked}
use Rattle.replica.specs.Meanings.{any_below}
use Rattle.message.specs.declared.messages.Message.{Message}
use Rattle.message.specs.Messages.{Msg, msg_of}
use Rattle.broadcast.specs.Bags.{nth}
use Rattle.journal.specs.declared.verdicts.Judgement.{Judgement}
use Rattle.journal.specs.Verdicts.{judged_of}
use Rattle.pronto.specs.declared.faults.ServerFault.{ServerFault}
use Rattle.pronto.specs.declared.faults.ServerFault.TheVariants as fault
use Rattle.pronto.specs.Servers.{Work, Site}
use Rattle.pronto.specs.Refusing.{if_found}
use Rattle.pronto.specs.Refusing.{is_committing as found_committing}
use Rattle.pronto.specs.Delivering.{verdict}
use Rattle.server.specs.declared.states.State.{State}
use Rattle.server.specs.declared.states.State.TheVariants.{Executing}
use Rattle.server.specs.declared.states.Arrival.{Arrival}
use Rattle.server.specs.declared.states.Arrival.TheVariants.{Run}
use Rattle.server.specs.declared.rows.Row.{Row}
use Rattle.server.specs.declared.slots.Slot.{Slot}
use Rattle.server.specs.declared.servers.Server.{Server}
use Rattle.server.specs.declared.rows.Open.{Open}
use Rattle.server.specs.Outcomes.{outcome_of, is_committing}
use Rattle.server.specs.Shown.{work_of}

-- A look is refused exactly where there is a refusal; otherwise it finds what is right.
abbrev pub Looks : {T : Type 0} → Result T ServerFault → Option ServerFault → (T → Type 0) → Type 0
Looks (Ok x) why Right = (why ≡ None) × Right x
Looks (Err e) why Right = why ≡ Some e

-- The server runs; otherwise it is told that it is stopped.
abbrev pub RunsOrStopped : Server → Result (Unit {0}) ServerFault → Type 0
RunsOrStopped v (Ok u) = v.running ≡ true
RunsOrStopped v (Err e) = (v.running ≡ false) × (e ≡ fault.Stopped)

-- The server runs and the client exists; otherwise, which of these fails first.
abbrev pub Admits : Server → ℕ → Result (Unit {0}) ServerFault → Type 0
Admits v c (Ok u) = (v.running ≡ true) × (c ≤ 15)
Admits v c (Err e) = ((v.running ≡ false) × (e ≡ fault.Stopped)) ⊎ ((v.running ≡ true) × (15 < c) × (e ≡ fault.NoClient))

-- The transaction that was found, and what becomes of it; otherwise there is none, or it is committing.
abbrev pub Reaches : Arrival → Option (ℕ × Work) → Result Open ServerFault → Type 0
Reaches a found (Ok x) = (found ≡ Some (x.slot.index, work_of x.row)) × (outcome_of x.row.state a ≡ Ok x.outcome)
Reaches a found (Err e) =
    ((found ≡ None) × (e ≡ fault.NoTransaction)) ⊎ ((is_some found ≡ true) × (found_committing found ≡ true) × (e ≡ fault.Committing))

-- A look that finds nothing more.
abbrev pub Nothing : Unit {0} → Type 0
Nothing u = Unit {0}

-- The transaction that was found, with its slot.
abbrev pub found_of : Option (Slot × Row) → Option (ℕ × Work)
found_of None = None
found_of (Some x) = Some (x.0.index, work_of x.1)

-- The number of a slot, where there is one.
abbrev pub slot_of : Option Slot → Option ℕ
slot_of None = None
slot_of (Some s) = Some s.index

-- A row that has no transaction, where there is one.
abbrev pub Free : (ℕ → Option Work) → Option Slot → Type 0
Free rows (Some s) = rows s.index ≡ None
Free rows None = any_below 8 (λ p. not (is_some (rows p))) ≡ false

-- The slot's row has no transaction.
abbrev pub FreeIn : Site → Slot → Type 0
FreeIn v s = Free v.rows (Some s)

-- The transaction that was found executes, and this is what becomes of it.
abbrev pub Found : Arrival → Option (ℕ × Work) → Open → Type 0
Found a found x = (found ≡ Some (x.slot.index, work_of x.row)) × (outcome_of Executing a ≡ Ok x.outcome)

-- The numbers make a statement, and the transaction that was found has room for it.
abbrev pub Runnable : ℕ → Operation → Option (ℕ × Work) → Statement × Open → Type 0
Runnable cell o found x = (checked cell o ≡ Some x.0) × Found Run found x.1 × (length (work_of x.1.row).stmts < 6)

-- The next message of the log there, and its judgement.
abbrev pub Next : List Msg → Site → Bor Message × Judgement → Type 0
Next log v x = (nth log v.delivered ≡ Some (msg_of x.0.now)) × (verdict log v (msg_of x.0.now) ≡ judged_of x.1)

-- Whether a transaction is committing, where there is one, as it is told.
abbrev pub state_told : Option State → Option Bool
state_told None = None
state_told (Some s) = Some (is_committing s)

-- The same, as it is found.
abbrev pub state_found : Option (ℕ × Work) → Option Bool
state_found found = if_found found None (λ p w. Some w.committing)
