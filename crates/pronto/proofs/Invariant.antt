-- The invariant: what every moment of a list of acts keeps, of each server, of the messages in flight and of the log.
use Rattle.std.proofs.Common.{◌≡◌, ℕ, ◌+◌, ◌<◌, ◌≤◌, true, false, ◌≢◌, ◌⊎◌, List, [], ◌∷◌, ◌++◌, length, drop, Some, None, Option}
use Rattle.std.specs.List.{AllByRecursion as All}
use Rattle.statement.specs.declared.checked.Statement.{Statement}
use Rattle.replica.specs.Meanings.{Slot, all_stepped}
use Rattle.message.specs.Messages.{Tx, Msg, epoch_change, transaction}
use Rattle.journal.specs.Runs.{answers}
use Rattle.journal.specs.Judging.{committed, Summary, judge, next, start, from, at, primary}
use Rattle.pronto.specs.Servers.{Work, Site}
use Rattle.pronto.specs.States.{State}
use Rattle.pronto.proofs.Clear.{Cells, writes, Clear, Unwritten}
use Rattle.pronto.proofs.Everywhere.{Pairs}

-- a transaction message that server i sent carries an epoch of at most e
abbrev pub Old : ℕ → ℕ → Msg → Type 0
Old i e (epoch_change k f) = Unit {0}
Old i e (transaction t) = t.sender ≡ i → t.epoch ≤ e

-- a committing transaction that is the message's
pub record Mine (rows : ℕ → Option Work) (t : Tx) : Type 0 where
  pub slot : ℕ
  pub row : Work
  pub open_row : rows slot ≡ Some row
  pub committing : row.committing ≡ true
  pub client : t.client ≡ row.client
  pub job : t.job ≡ row.job
  pub stmts : t.stmts ≡ row.stmts

abbrev pub Owned : ℕ → ℕ → (ℕ → Option Work) → Msg → Type 0
Owned i e rows (epoch_change k f) = Unit {0}
Owned i e rows (transaction t) = t.sender ≡ i → t.epoch ≡ e → Mine rows t

-- two messages of server i in epoch e differ in client or job
abbrev pub Unlike : ℕ → ℕ → Msg → Msg → Type 0
Unlike i e (epoch_change k f) m = Unit {0}
Unlike i e (transaction a) (epoch_change k f) = Unit {0}
Unlike i e (transaction a) (transaction b) = a.sender ≡ i → b.sender ≡ i → a.epoch ≡ e → b.epoch ≡ e → a.client ≡ b.client → a.job ≡ b.job → ⊥

-- a slot's own value is what its transaction's run leaves, and is locked for writing
abbrev pub OwnFits : (ℕ → ℕ) → Cells → List Statement → Slot → ℕ → Option ℕ → Type 0
OwnFits unit S t k c None = Unwritten c t
OwnFits unit S t k c (Some v) = (v ≡ all_stepped S t c) × (k.writes (unit c) ≡ true)

abbrev pub Locked : (ℕ → ℕ) → Slot → Statement → Type 0
Locked unit k a =
    (writes a ≡ true → k.writes (unit a.cell) ≡ true) × ((k.reads (unit a.cell) ≡ true) ⊎ (k.writes (unit a.cell) ≡ true))

pub record Fits (unit : ℕ → ℕ) (S : Cells) (r : Work) (k : Slot) : Type 0 where
  pub results : r.results ≡ answers r.stmts S
  pub own : (c : ℕ) → OwnFits unit S r.stmts k c (k.own c)
  pub locks : All (Locked unit k) r.stmts

-- a row is open exactly if its slot is, and then they fit
abbrev pub Linked : (ℕ → ℕ) → Cells → Option Work → Option Slot → Type 0
Linked unit S None None = Unit {0}
Linked unit S None (Some k) = ⊥
Linked unit S (Some r) None = ⊥
Linked unit S (Some r) (Some k) = Fits unit S r k

-- the other slot has no lock where this one writes
abbrev pub Free : Slot → Slot → Type 0
Free k k' = (u : ℕ) → k.writes u ≡ true → (k'.reads u ≡ false) × (k'.writes u ≡ false)

-- a server's place in the log
pub record Placed (L : List Msg) (v : Site) : Type 0 where
  pub d≤ : v.delivered ≤ length L
  pub m≤ : v.db.mark ≤ length L
  pub ep : v.epoch ≡ (at L v.delivered).epoch
  pub cm : (c : ℕ) → v.db.cells c ≡ (at L v.db.mark).cells c
  pub cd : v.db.mark ≤ v.delivered → (c : ℕ) → v.db.cells c ≡ (at L v.delivered).cells c

pub record Leads (n i : ℕ) (v : Site) : Type 0 where
  pub up : v.running ≡ true
  pub bar : v.bar ≡ None
  pub lead : i ≡ primary n v.epoch

-- a server's rows and slots
pub record Local (n : ℕ) (unit : ℕ → ℕ) (i : ℕ) (v : Site) : Type 0 where
  pub leads : (s : ℕ) (r : Work) → v.rows s ≡ Some r → Leads n i v
  pub link : (s : ℕ) → Linked unit v.db.cells (v.rows s) (v.db.slots s)
  pub alone : (s s' : ℕ) (r r' : Work) → v.rows s ≡ Some r → v.rows s' ≡ Some r' → r.client ≡ r'.client → r.job ≡ r'.job → s ≡ s'
  pub few : (s : ℕ) (r : Work) → v.rows s ≡ Some r → s < 8
  pub free : (s s' : ℕ) (k k' : Slot) → s ≢ s' → v.db.slots s ≡ Some k → v.db.slots s' ≡ Some k' → Free k k'

-- What a running server has sent: nothing of an epoch above its own; behind a bar, nothing above the epoch at the bar. Mark q, delivered d, epoch e.
abbrev pub Fence : List Msg → List Msg → ℕ → ℕ → ℕ → ℕ → Option ℕ → Type 0
Fence L W i q d e None = (q ≤ d) × All (Old i e) (L ++ W)
Fence L W i q d e (Some b) = (b ≤ length L) × ((q ≤ b) ⊎ (q ≤ d)) × All (Old i (at L b).epoch) (L ++ W)

-- One server. While it runs without a bar, each message of its epoch that it sent and has not delivered is that of a committing row,
-- and no two of them are of one client and job.
pub record Good (n : ℕ) (unit : ℕ → ℕ) (L W : List Msg) (i : ℕ) (v : Site) : Type 0 where
  pub placed : Placed L v
  pub local : Local n unit i v
  pub fence : v.running ≡ true → Fence L W i v.db.mark v.delivered v.epoch v.bar
  pub owned : v.running ≡ true → v.bar ≡ None → All (Owned i v.epoch v.rows) (drop v.delivered L ++ W)
  pub unlike : v.running ≡ true → v.bar ≡ None → Pairs (Unlike i v.epoch) (drop v.delivered L ++ W)

-- a message carries an epoch of at most e, and a transaction's sender leads its epoch
abbrev pub Known : ℕ → ℕ → Msg → Type 0
Known n e (epoch_change i f) = f ≤ e
Known n e (transaction t) = (t.epoch ≤ e) × (t.sender ≡ primary n t.epoch)

-- a waiting transaction of epoch e has the results of a run from S
abbrev pub Sound : ℕ → Cells → Msg → Type 0
Sound e S (epoch_change i f) = Unit {0}
Sound e S (transaction t) = t.epoch ≡ e → t.results ≡ answers t.stmts S

-- two transactions of epoch e are clear of each other
abbrev pub Clears : ℕ → Msg → Msg → Type 0
Clears e (epoch_change i f) m = Unit {0}
Clears e (transaction a) (epoch_change i f) = Unit {0}
Clears e (transaction a) (transaction b) = a.epoch ≡ e → b.epoch ≡ e → Clear a.stmts b.stmts

-- a committed transaction has the results of a run from the cells before it
abbrev pub RightAt : Summary → Msg → Type 0
RightAt j (epoch_change i f) = Unit {0}
RightAt j (transaction t) = judge j (transaction t) ≡ committed → t.results ≡ answers t.stmts j.cells

abbrev pub Right : Summary → List Msg → Type 0
Right j [] = Unit {0}
Right j (m ∷ l) = RightAt j m × Right (next j m) l

-- The whole ensemble. Of the waiting transactions of the epoch in force each has the results of a run from the end of the log, and any
-- two are clear of each other; so every committed one in the log has the results of a run from the cells before it.
pub record Inv (s : State) : Type 0 where
  pub good : (i : ℕ) → Good s.count (s.units i) s.log s.waiting i (s.servers i)
  pub known : All (Known s.count (from start s.log).epoch) (s.log ++ s.waiting)
  pub right : Right start s.log
  pub sound : All (Sound (from start s.log).epoch (from start s.log).cells) s.waiting
  pub clears : Pairs (Clears (from start s.log).epoch) s.waiting
  pub count : s.sent ≡ length s.log + length s.waiting
  pub room : length s.log + length s.waiting ≤ s.capacity
  pub small : s.capacity ≤ 4096
  pub enough : s.count ≤ s.databases
