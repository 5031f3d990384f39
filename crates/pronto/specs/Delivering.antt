-- Deliver: the next message of the log, judged from the log alone, and what the server does with it.
use Rattle.std.specs.Prelude.{◌≡◌, ℕ, Bool, cond, not, List, [], ◌∷◌, is_some, Some, None, Option, ◌==◌, nat_lt}
use Rattle.replica.specs.Refusals.{seal_refusal, undo_refusal, intake_refusal}
use Rattle.message.specs.Messages.{Tx, Msg, epoch_change, transaction}
use Rattle.broadcast.specs.Bags.{nth}
use Rattle.journal.specs.Judging.{Judged, accepted, stale, committed, late, again, judge, at}
use Rattle.journal.specs.Verdicts.{judged_of}
use Rattle.journal.specs.declared.verdicts.Judgement.{Judgement}
use Rattle.pronto.specs.Servers.{Work, Site, past, risen, seals, takes, ended}
use Rattle.pronto.specs.Refusing.{first, and_then, up, at_place, seek, if_found}
use Rattle.pronto.specs.declared.faults.ServerFault.{ServerFault}
use Rattle.pronto.specs.declared.faults.ServerFault.TheVariants as fault

-- The slot of a message that is the server's own: server i sent it, it carries the server's epoch, and a committing transaction there
-- has its client and job.
abbrev pub own_at : (ℕ → Option Work) → ℕ → ℕ → ℕ → ℕ → ℕ → ℕ → Option ℕ
own_at rows epoch i sender e c k =
    cond (sender == i) (cond (e == epoch) (if_found (seek rows c k 8) None (λ p w. cond w.committing (Some p) None)) None) None

abbrev pub own_slot : ℕ → Site → Tx → Option ℕ
own_slot i v t = own_at v.rows v.epoch i t.sender t.epoch t.client t.job

-- A committed message: sealed where it is the server's own; otherwise taken in, unless its position is below the mark.
abbrev pub commit_why : ℕ → ℕ → Site → Option ℕ → Option ServerFault
commit_why databases place v (Some p) = up (seal_refusal v.db p v.delivered)
commit_why databases place v None = cond (nat_lt v.delivered v.db.mark) None (up (at_place databases place (intake_refusal v.db v.delivered)))

abbrev pub commit_at : Site → Tx → Option ℕ → Site
commit_at v t (Some p) = seals v p
commit_at v t None = cond (nat_lt v.delivered v.db.mark) (past v) (takes v t.stmts)

-- A message judged again: undone where it is the server's own.
abbrev pub again_why : Site → Option ℕ → Option ServerFault
again_why v (Some p) = up (undo_refusal v.db p)
again_why v None = None

abbrev pub again_at : Site → Option ℕ → Site
again_at v (Some p) = past (ended v p)
again_at v None = past v

-- Why a message, so judged, cannot be handled at server i, and what handling it leaves.
abbrev pub handle_why : ℕ → ℕ → ℕ → Judged → Msg → Site → Option ServerFault
handle_why databases place i committed (transaction t) v = commit_why databases place v (own_slot i v t)
handle_why databases place i committed (epoch_change s e) v = None
handle_why databases place i (again q) (transaction t) v = again_why v (own_slot i v t)
handle_why databases place i (again q) (epoch_change s e) v = None
handle_why databases place i accepted m v = None
handle_why databases place i stale m v = None
handle_why databases place i late m v = None

abbrev pub handled : ℕ → Judged → Msg → Site → Site
handled i committed (transaction t) v = commit_at v t (own_slot i v t)
handled i committed (epoch_change s e) v = past v
handled i (again q) (transaction t) v = again_at v (own_slot i v t)
handled i (again q) (epoch_change s e) v = past v
handled i accepted m v = risen v
handled i stale m v = past v
handled i late m v = past v

abbrev pub if_next : {X : Type 0} → Option Msg → X → (Msg → X) → X
if_next None x f = x
if_next (Some m) x f = f m

module _ (log : List Msg) where
  -- The judgement of a message that the server delivers next.
  unfoldable pub verdict : Site → Msg → Judged
  verdict v m = judge (at log v.delivered) m

  abbrev pub deliver_table : Site → List (Bool × ServerFault)
  deliver_table v = (not v.running, fault.Stopped) ∷ (not (is_some (nth log v.delivered)), fault.AllDelivered) ∷ []

  unfoldable pub deliver_why : ℕ → ℕ → ℕ → Site → Option ServerFault
  deliver_why databases place i v = and_then (first (deliver_table v)) (if_next (nth log v.delivered) None (λ m. handle_why databases place i (verdict v m) m v))

  unfoldable pub deliver_after : ℕ → Site → Site
  deliver_after i v = if_next (nth log v.delivered) v (λ m. handled i (verdict v m) m v)

  -- The answer: the position and the judgement.
  unfoldable pub Tells : Site → ℕ × Judgement → Type 0
  Tells v x = (x.0 ≡ v.delivered) × (if_next (nth log v.delivered) None (λ m. Some (verdict v m)) ≡ Some (judged_of x.1))
