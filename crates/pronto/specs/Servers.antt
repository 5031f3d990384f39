-- A server with its database, and what happens to it when an act is obeyed.
use Rattle.std.specs.Prelude.{ℕ, ◌+◌, Bool, true, false, cond, List, [], ◌∷◌, ◌++◌, Some, None, Option, nat_le}
use Rattle.statement.specs.declared.checked.Statement.{Statement}
use Rattle.replica.specs.Meanings.{Meaning, upd}
use Rattle.replica.specs.Calls.{cleared, opened, ran, run_answer, sealed, undone, taken_in, lost}

-- An open transaction: whose it is, its statements with their results, and whether it is committing or still executing.
pub record Work : Type 0 where
  pub client : ℕ
  pub job : ℕ
  pub stmts : List Statement
  pub results : List ℕ
  pub committing : Bool

-- A server: its open transactions stand in rows, one for each slot of its database.
pub record Site : Type 0 where
  pub running : Bool
  pub epoch : ℕ
  pub delivered : ℕ
  pub bar : Option ℕ
  pub rows : ℕ → Option Work
  pub db : Meaning

-- A new server.
abbrev pub new_site : Site
new_site = record { running = true; epoch = 1; delivered = 0; bar = None; rows = λ _. None; db = cleared }

abbrev pub new_work : ℕ → ℕ → Work
new_work c k = record { client = c; job = k; stmts = []; results = []; committing = false }

-- The transaction with one statement more and its result.
abbrev pub noted : Work → Statement → ℕ → Work
noted w st x = record { client = w.client; job = w.job; stmts = w.stmts ++ st ∷ []; results = w.results ++ x ∷ []; committing = w.committing }

abbrev pub committing_now : Work → Work
committing_now w = record { client = w.client; job = w.job; stmts = w.stmts; results = w.results; committing = true }

abbrev pub with_row : Site → ℕ → Option Work → Site
with_row v p w = record { running = v.running; epoch = v.epoch; delivered = v.delivered; bar = v.bar; rows = upd v.rows p w; db = v.db }

abbrev pub with_db : Site → Meaning → Site
with_db v m = record { running = v.running; epoch = v.epoch; delivered = v.delivered; bar = v.bar; rows = v.rows; db = m }

-- begin: a transaction of client c's job k is open in slot p.
abbrev pub begun : Site → ℕ → ℕ → ℕ → Site
begun v p c k = with_db (with_row v p (Some (new_work c k))) (opened v.db p)

-- run: the statement ran in slot p and is noted with its result.
abbrev pub worked : (ℕ → ℕ) → Site → ℕ → Work → Statement → Site
worked unit v p w st = with_db (with_row v p (Some (noted w st (run_answer v.db p st)))) (ran unit v.db p st)

-- commit: the transaction in slot p is committing.
abbrev pub sent_off : Site → ℕ → Work → Site
sent_off v p w = with_row v p (Some (committing_now w))

-- abort: slot p is undone and its transaction removed.
abbrev pub ended : Site → ℕ → Site
ended v p = with_db (with_row v p None) (undone v.db p)

-- One message further.
abbrev pub past : Site → Site
past v = record { running = v.running; epoch = v.epoch; delivered = v.delivered + 1; bar = v.bar; rows = v.rows; db = v.db }

-- The bar, lifted by an epoch message that is accepted at or past it.
abbrev pub lifted : ℕ → Option ℕ → Option ℕ
lifted p None = None
lifted p (Some b) = cond (nat_le b p) None (Some b)

-- An accepted epoch message: every transaction is undone and removed, the epoch rises, and the bar may be lifted.
abbrev pub risen : Site → Site
risen v = record { running = v.running; epoch = v.epoch + 1; delivered = v.delivered + 1; bar = lifted v.delivered v.bar; rows = λ _. None; db = lost v.db }

-- A committed message of the server's own, by its transaction in slot p: sealed, and the transaction removed.
abbrev pub seals : Site → ℕ → Site
seals v p = past (with_db (with_row v p None) (sealed v.db p v.delivered))

-- A committed message of another: taken in.
abbrev pub takes : Site → List Statement → Site
takes v sts = past (with_db v (taken_in v.db sts v.delivered))

-- stop: slots, transactions, epoch and delivered count are forgotten; cells and mark stay.
abbrev pub stopped : Site → Site
stopped v = record { running = false; epoch = 1; delivered = 0; bar = v.bar; rows = λ _. None; db = lost v.db }

-- start: the server runs, with a bar.
abbrev pub started : Site → ℕ → Site
started v b = record { running = true; epoch = v.epoch; delivered = v.delivered; bar = Some b; rows = v.rows; db = v.db }
