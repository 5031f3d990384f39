-- Judging in words of positions: what the summary of a front says about the messages in it.
use Rattle.std.specs.Prelude.{◌≡◌, ℕ, ◌<◌, List, [], ◌∷◌, ◌++◌, take, drop, Some, None}
use Rattle.statement.specs.declared.checked.Statement.{Statement}
use Rattle.replica.specs.Meanings.{all_stepped}
use Rattle.message.specs.Messages.{Tx, Msg, epoch_change, transaction}
use Rattle.journal.specs.Judging.{Judged, accepted, stale, committed, late, again, Summary, judge, next, start, at}

-- The message at a position of the log, and how the log judges it.
pub record Stands (l : List Msg) (p : ℕ) (m : Msg) (j : Judged) : Type 0 where
  pub rest : List Msg
  pub here : drop p l ≡ m ∷ rest
  pub is : judge (at l p) m ≡ j

-- The message at p is a committed one of this client and job.
pub record Committed (l : List Msg) (c k p : ℕ) : Type 0 where
  pub tx : Tx
  pub stands : Stands l p (transaction tx) committed
  pub client : tx.client ≡ c
  pub job : tx.job ≡ k

-- What "no committed message before it has its client and job" means: the earlier position that a front tells for a client's job is
-- below its end and is that of a committed message of this client and job; and where it tells none, there is none.
pub record TellsEarlier (l : List Msg) : Type 0 where
  pub some : (k c j p : ℕ) → (at l k).seen c j ≡ Some p → (p < k) × Committed l c j p
  pub none : (k c j p : ℕ) → (at l k).seen c j ≡ None → p < k → Committed l c j p → ⊥

abbrev pub EarlierTold : Type 0
EarlierTold = (l : List Msg) → TellsEarlier l

-- The statements of a message that is judged committed; no other message has any to run.
abbrev pub to_run : Judged → Msg → List Statement
to_run committed (transaction t) = t.stmts
to_run committed (epoch_change i e) = []
to_run accepted m = []
to_run stale m = []
to_run late m = []
to_run (again p) m = []

-- The statements of the committed messages, in log order.
abbrev pub all_to_run : Summary → List Msg → List Statement
all_to_run j [] = []
all_to_run j (m ∷ l) = to_run (judge j m) m ++ all_to_run (next j m) l

-- The cells that the committed transactions among the log's first k messages leave, run one by one in log order from zeros.
abbrev pub single_run : List Msg → ℕ → ℕ → ℕ
single_run l k = all_stepped (λ c. 0) (all_to_run start (take k l))

-- The cells of a front are one run of the committed statements in log order.
abbrev pub OneRun : Type 0
OneRun = (l : List Msg) (k : ℕ) → (at l k).cells ≡ single_run l k

-- The epoch in force before position 0 is 1.
abbrev pub FirstEpoch : Type 0
FirstEpoch = (l : List Msg) → (at l 0).epoch ≡ 1
