-- The nine acts: for each its answer and the whole state afterwards. Free are only the slot of a begin and the message of an order.
use Rattle.std.specs.Prelude.{◌≡◌, ℕ, ◌+◌, ◌-◌, ◌%◌, ◌^◌, ◌<◌, cond, [], length, Some, None, Ok, Err, Option, Result}
use Rattle.statement.specs.declared.operation.Operation.{Operation}
use Rattle.message.specs.Messages.{Msg, epoch_change, transaction}
use Rattle.broadcast.specs.Bags.{Inserted, Moved}
use Rattle.journal.specs.declared.verdicts.Judgement.{Judgement}
use Rattle.pronto.specs.Servers.{Work, Site, begun, stopped, started}
use Rattle.pronto.specs.Refusing.{first, begin_table, begin_why, run_why, run_result, run_after, find, if_found, open_table, commit_after, abort_why, abort_after, running_table, start_table}
use Rattle.pronto.specs.Delivering.{deliver_why, deliver_after, Tells}
use Rattle.replica.specs.Meanings.{upd}
use Rattle.pronto.specs.States.{State, is_full, with_messages, with_servers, why_at, At}
use Rattle.pronto.specs.declared.refusals.Refusal.{Refusal}
use Rattle.pronto.specs.declared.refusals.Refusal.TheVariants as refusal

-- The place of server i's database in the bank.
abbrev pub place : ℕ → ℕ
place i = i - 1

abbrev pub NothingTold : Site → Unit {0} → Type 0
NothingTold v u = Unit {0}

-- begin: in some slot that is free, where the table does not refuse it.
pub record Begin (c k : ℕ) (s : State) (i : ℕ) (r : Result (Unit {0}) Refusal) (s' : State) : Type 0 where
  pub slot : ℕ
  pub free : first (begin_table s.count i (s.servers i) c k) ≡ None → (slot < 8) × ((s.servers i).rows slot ≡ None)
  pub did : At (λ v. begin_why s.databases (place i) s.count i v c k slot) NothingTold (λ v. begun v slot c k) s i r s'

-- run: of the operation on the cell of these numbers.
abbrev pub Run : ℕ → ℕ → ℕ → Operation → State → ℕ → Result ℕ Refusal → State → Type 0
Run c k cell o s i r s' =
    At (λ v. run_why (s.units i) v c k cell o) (λ v x. x ≡ run_result v c k cell o) (λ v. run_after (s.units i) v c k cell o) s i r s'

abbrev pub Abort : ℕ → ℕ → State → ℕ → Result (Unit {0}) Refusal → State → Type 0
Abort c k s i r s' = At (λ v. abort_why v c k) NothingTold (λ v. abort_after v c k) s i r s'

abbrev pub Deliver : State → ℕ → Result (ℕ × Judgement) Refusal → State → Type 0
Deliver s i r s' = At (deliver_why s.log s.databases (place i) i) (Tells s.log) (deliver_after s.log i) s i r s'

abbrev pub Stop : State → ℕ → Result (Unit {0}) Refusal → State → Type 0
Stop s i r s' = At (λ v. first (running_table v)) NothingTold stopped s i r s'

abbrev pub Start : State → ℕ → Result (Unit {0}) Refusal → State → Type 0
Start s i r s' = At (λ v. first (start_table v)) NothingTold (λ v. started v (length s.log)) s i r s'

-- Why a message of server i is not sent: what refuses the act there, and then a broadcast that is full.
abbrev pub unless_full : State → ℕ → Option Refusal → Option Refusal
unless_full s i (Some e) = Some e
unless_full s i None = cond (is_full s) (Some (refusal.Full i)) None

-- A message is sent: it joins the waiting ones, one more is counted, and the servers are these.
abbrev pub Sends : State → Msg → (ℕ → Site) → Option Refusal → Result (Unit {0}) Refusal → State → Type 0
Sends s m servers why (Ok u) s' = (why ≡ None) × Inserted m s.waiting s'.waiting × (s' ≡ with_messages (with_servers s servers) s.log s'.waiting ((s.sent + 1) % 2 ^ 64))
Sends s m servers why (Err e) s' = (why ≡ Some e) × (s' ≡ s)

abbrev pub Suspect : State → ℕ → Result (Unit {0}) Refusal → State → Type 0
Suspect s i r s' = Sends s (epoch_change i (s.servers i).epoch) s.servers (unless_full s i (why_at s i (λ v. first (running_table v)))) r s'

-- The message of a transaction at server i.
abbrev pub message_of : ℕ → Site → Work → Msg
message_of i v w = transaction (record { sender = i; epoch = v.epoch; client = w.client; job = w.job; stmts = w.stmts; results = w.results })

unfoldable pub message_to_commit : ℕ → Site → ℕ → ℕ → Msg
message_to_commit i v c k = if_found (find v c k) (epoch_change 0 0) (λ p w. message_of i v w)

abbrev pub Commit : ℕ → ℕ → State → ℕ → Result (Unit {0}) Refusal → State → Type 0
Commit c k s i r s' =
    Sends s (message_to_commit i (s.servers i) c k) (upd s.servers i (commit_after (s.servers i) c k)) (unless_full s i (why_at s i (λ v. first (open_table v c k)))) r s'

-- order: some waiting message moves to the end of the log.
abbrev pub Order : State → Result ℕ Refusal → State → Type 0
Order s (Ok p) s' = (p ≡ length s.log) × Moved s.log s.waiting s'.log s'.waiting × (s' ≡ with_messages s s'.log s'.waiting s.sent)
Order s (Err e) s' = (s.waiting ≡ []) × (e ≡ refusal.NothingWaits) × (s' ≡ s)
