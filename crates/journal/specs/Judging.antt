-- Judging a log: the epoch in force, what each message comes to, and the single run.
use Rattle.std.specs.Prelude.{ℕ, ◌+◌, ◌-◌, ◌%◌, cond, List, [], ◌∷◌, take, Some, None, Option, ◌==◌}
use Rattle.replica.specs.Meanings.{all_stepped, upd}
use Rattle.message.specs.Messages.{Msg, epoch_change, transaction}

pub data Judged : Type 0 where
  accepted : Judged
  stale : Judged
  committed : Judged
  late : Judged
  again : (earlier : ℕ) → Judged

-- What a front of the log comes to: its length, the epoch in force after it, where each client's job was committed, and the cells.
pub record Summary : Type 0 where
  pub count : ℕ
  pub epoch : ℕ
  pub seen : ℕ → ℕ → Option ℕ
  pub cells : ℕ → ℕ

-- A job that was committed before comes again; another is committed.
abbrev pub unless_seen : Option ℕ → Judged
unless_seen None = committed
unless_seen (Some p) = again p

-- A message, judged by the epoch in force and by where its client's job was committed.
abbrev pub judged_by : ℕ → (ℕ → ℕ → Option ℕ) → Msg → Judged
judged_by in_force seen (epoch_change i e) = cond (e == in_force) accepted stale
judged_by in_force seen (transaction t) = cond (t.epoch == in_force) (unless_seen (seen t.client t.job)) late

-- The judgement of a message after a front of the log.
unfoldable pub judge : Summary → Msg → Judged
judge j m = judged_by j.epoch j.seen m

-- The front with one message more that changes nothing.
abbrev pub passed : Summary → Summary
passed j = record { count = j.count + 1; epoch = j.epoch; seen = j.seen; cells = j.cells }

-- The front with one message more: an accepted epoch message raises the epoch, a committed transaction is noted and run.
abbrev pub after_judged : Judged → Msg → Summary → Summary
after_judged accepted m j = record { count = j.count + 1; epoch = j.epoch + 1; seen = j.seen; cells = j.cells }
after_judged committed (transaction t) j =
    record {
      count = j.count + 1;
      epoch = j.epoch;
      seen = upd j.seen t.client (upd (j.seen t.client) t.job (Some j.count));
      cells = all_stepped j.cells t.stmts;
    }
after_judged committed (epoch_change i e) j = passed j
after_judged stale m j = passed j
after_judged late m j = passed j
after_judged (again p) m j = passed j

abbrev pub next : Summary → Msg → Summary
next j m = after_judged (judge j m) m j

-- The empty front: epoch 1, nothing committed, 64 zeros.
abbrev pub start : Summary
start = record { count = 0; epoch = 1; seen = λ c k. None; cells = λ c. 0 }

-- What a front comes to that is followed by further messages.
abbrev pub from : Summary → List Msg → Summary
from j [] = j
from j (m ∷ l) = from (next j m) l

-- What the log's first k messages come to.
unfoldable pub at : List Msg → ℕ → Summary
at l k = from start (take k l)

-- The server that leads an epoch among n.
unfoldable pub primary : ℕ → ℕ → ℕ
primary n e = (e - 1) % n + 1
