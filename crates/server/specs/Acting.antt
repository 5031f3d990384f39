-- The acts at one server with its database.
use Rattle.std.specs.Prelude.{◌≡◌, ℕ, ◌<◌, List, None, Ok, Err, Option, Result}
use Rattle.statement.specs.declared.operation.Operation.{Operation}
use Rattle.replica.specs.Meanings.{Meaning, upd}
use Rattle.message.specs.Messages.{Msg}
use Rattle.journal.specs.Judging.{Judged}
use Rattle.journal.specs.declared.verdicts.Judgement.{Judgement}
use Rattle.pronto.specs.declared.faults.ServerFault.{ServerFault}
use Rattle.pronto.specs.Servers.{Site, begun, stopped, started}
use Rattle.pronto.specs.Refusing.{first, begin_table, begin_why, run_why, run_result, run_after, abort_why, abort_after, running_table, start_table}
use Rattle.pronto.specs.Delivering.{handle_why, handled, deliver_why, deliver_after, Tells}
use Rattle.pronto.specs.States.{Did}
use Rattle.pronto.specs.Acts.{NothingTold}
use Rattle.server.specs.declared.servers.Server.{Server}
use Rattle.server.specs.declared.servers.advances.Advance.{Advance}
use Rattle.server.specs.Shown.{shown, advanced}

-- An act at the server and the database of place i: refused exactly where there is a refusal, and then nothing has changed; otherwise its
-- answer is right, and `done` is what it leaves. No other database changes.
abbrev pub Settled : {T : Type 0} → Result T ServerFault → (Site → Option ServerFault) → (Site → T → Type 0) → (Site → Site) → ℕ → Server → (ℕ → Meaning) → Server → (ℕ → Meaning) → Type 0
Settled r why Right done i v ms w ns =
    Did r (why (shown v (ms i))) (Right (shown v (ms i))) (shown v (ms i)) (shown w (ns i)) (done (shown v (ms i))) × (ns ≡ upd ms i (ns i))

-- begin, at server `number` of n in a bank of so many databases: in some slot that is free, where the table does not refuse it.
pub record Begins (databases n number c k : ℕ) (r : Result (Unit {0}) ServerFault) (i : ℕ) (v : Server) (ms : ℕ → Meaning) (w : Server) (ns : ℕ → Meaning) : Type 0 where
  pub slot : ℕ
  pub free : first (begin_table n number (shown v (ms i)) c k) ≡ None → (slot < 8) × ((shown v (ms i)).rows slot ≡ None)
  pub settled : Settled r (λ s. begin_why databases i n number s c k slot) NothingTold (λ s. begun s slot c k) i v ms w ns

-- run, of the operation on the cell of these numbers.
abbrev pub Runs : (ℕ → ℕ → ℕ) → ℕ → ℕ → ℕ → Operation → Result ℕ ServerFault → ℕ → Server → (ℕ → Meaning) → Server → (ℕ → Meaning) → Type 0
Runs units c k cell o r i v ms w ns =
    Settled r (λ s. run_why (units i) s c k cell o) (λ s x. x ≡ run_result s c k cell o) (λ s. run_after (units i) s c k cell o) i v ms w ns

-- abort, of client c's job k.
abbrev pub Aborts : ℕ → ℕ → Result (Unit {0}) ServerFault → ℕ → Server → (ℕ → Meaning) → Server → (ℕ → Meaning) → Type 0
Aborts c k r i v ms w ns = Settled r (λ s. abort_why s c k) NothingTold (λ s. abort_after s c k) i v ms w ns

-- A message, so judged, at server `number`.
abbrev pub Handles : ℕ → ℕ → Judged → Msg → Result (Unit {0}) ServerFault → ℕ → Server → (ℕ → Meaning) → Server → (ℕ → Meaning) → Type 0
Handles databases number j m r i v ms w ns = Settled r (handle_why databases i number j m) NothingTold (handled number j m) i v ms w ns

-- The same, where the database has done its part: every server that advances as the answer says has handled the message.
abbrev pub Meets : ℕ → ℕ → Judged → Msg → Result Advance ServerFault → ℕ → Server → (ℕ → Meaning) → (ℕ → Meaning) → Type 0
Meets databases number j m (Ok a) i v ms ns = (w : Server) → ((n : Meaning) → shown w n ≡ advanced a (shown v n)) → Handles databases number j m (Ok tt) i v ms w ns
Meets databases number j m (Err e) i v ms ns = Handles databases number j m (Err e) i v ms v ns

-- deliver, of the next message of the log.
abbrev pub Delivers : ℕ → List Msg → ℕ → Result (ℕ × Judgement) ServerFault → ℕ → Server → (ℕ → Meaning) → Server → (ℕ → Meaning) → Type 0
Delivers databases log number r i v ms w ns = Settled r (deliver_why log databases i number) (Tells log) (deliver_after log number) i v ms w ns

-- stop, which loses every slot.
abbrev pub Stops : Result (Unit {0}) ServerFault → ℕ → Server → (ℕ → Meaning) → Server → (ℕ → Meaning) → Type 0
Stops r i v ms w ns = Settled r (λ s. first (running_table s)) NothingTold stopped i v ms w ns

-- start, with a bar.
abbrev pub Starts : ℕ → Result (Unit {0}) ServerFault → ℕ → Server → (ℕ → Meaning) → Server → (ℕ → Meaning) → Type 0
Starts bar r i v ms w ns = Settled r (λ s. first (start_table s)) NothingTold (λ s. started s bar) i v ms w ns
