-- What a history alone tells: the standing of each server, what each client was told, and the messages that were sent.
use Rattle.std.specs.Prelude.{ℕ, ◌+◌, max, Bool, true, false, cond, ◌&&◌, List, [], ◌∷◌, ◌++◌, map, Some, None, Option, ◌==◌}
use Rattle.statement.specs.declared.checked.Statement.{Statement}
use Rattle.statement.specs.Making.{checked}
use Rattle.message.specs.Messages.{Tx, Msg, epoch_change, transaction}
use Rattle.journal.specs.declared.verdicts.Judgement.{Judgement}
use Rattle.journal.specs.declared.verdicts.Judgement.TheVariants as judgement
use Rattle.pronto.specs.declared.acts.TransactionId.{TransactionId}
use Rattle.pronto.specs.declared.acts.Act.{Act}
use Rattle.pronto.specs.declared.acts.Act.TheVariants as act
use Rattle.pronto.specs.declared.acts.Answer.{Answer}
use Rattle.pronto.specs.declared.acts.Answer.TheVariants as answer
use Rattle.pronto.specs.declared.acts.Entry.{Entry}

-- Acts with their answers, the first act first.
abbrev pub History : Type 0
History = List Entry

abbrev pub obeyed : Answer → Bool
obeyed answer.Done = true
obeyed (answer.Result x) = true
obeyed (answer.Ordered p) = true
obeyed (answer.Delivered p j) = true
obeyed (answer.Refused e) = false

-- A value that each act with its answer changes.
abbrev pub fold : {X : Type 0} → (Act → Answer → X → X) → X → History → X
fold f v [] = v
fold f v (x ∷ h) = fold f (f x.act x.answer v) h

-- A server's standing: its epoch and delivered count, both counted from its last stop, and its mark, one past the highest
-- position that a deliver there called committed.
pub record Standing : Type 0 where
  pub epoch : ℕ
  pub delivered : ℕ
  pub mark : ℕ

abbrev pub after_judgement : ℕ → Judgement → Standing → Standing
after_judgement p judgement.Accepted v = record { epoch = v.epoch + 1; delivered = v.delivered + 1; mark = v.mark }
after_judgement p judgement.Committed v = record { epoch = v.epoch; delivered = v.delivered + 1; mark = max v.mark (p + 1) }
after_judgement p judgement.Stale v = record { epoch = v.epoch; delivered = v.delivered + 1; mark = v.mark }
after_judgement p judgement.Late v = record { epoch = v.epoch; delivered = v.delivered + 1; mark = v.mark }
after_judgement p (judgement.Again q) v = record { epoch = v.epoch; delivered = v.delivered + 1; mark = v.mark }

abbrev pub after_deliver : Answer → Standing → Standing
after_deliver (answer.Delivered p j) v = after_judgement p j v
after_deliver answer.Done v = v
after_deliver (answer.Result x) v = v
after_deliver (answer.Ordered p) v = v
after_deliver (answer.Refused e) v = v

abbrev pub after_act : ℕ → Act → Answer → Standing → Standing
after_act i (act.Deliver j) r v = cond (i == j) (after_deliver r v) v
after_act i (act.Stop j) r v = cond (obeyed r && i == j) (record { epoch = 1; delivered = 0; mark = v.mark }) v
after_act i (act.Begin t) r v = v
after_act i (act.Run t cell o) r v = v
after_act i (act.Commit t) r v = v
after_act i (act.Abort t) r v = v
after_act i (act.Suspect j) r v = v
after_act i act.Order r v = v
after_act i (act.Start j) r v = v

abbrev pub standing : ℕ → History → Standing
standing i h = fold (after_act i) (record { epoch = 1; delivered = 0; mark = 0 }) h

-- What client c was told about its job k at server i since it last began it there: each statement of an obeyed run with the
-- result that the run answered, in order.
abbrev pub same_id : ℕ → ℕ → ℕ → TransactionId → Bool
same_id i c k t = i == t.server && c == t.client && k == t.job

abbrev pub told_one : Option Statement → ℕ → List (Statement × ℕ) → List (Statement × ℕ)
told_one None x l = l
told_one (Some st) x l = l ++ (st, x) ∷ []

abbrev pub told_by : Option Statement → Answer → List (Statement × ℕ) → List (Statement × ℕ)
told_by st (answer.Result x) l = told_one st x l
told_by st answer.Done l = l
told_by st (answer.Ordered p) l = l
told_by st (answer.Delivered p j) l = l
told_by st (answer.Refused e) l = l

abbrev pub tells : ℕ → ℕ → ℕ → Act → Answer → List (Statement × ℕ) → List (Statement × ℕ)
tells i c k (act.Begin t) r l = cond (obeyed r && same_id i c k t) [] l
tells i c k (act.Run t cell o) r l = cond (same_id i c k t) (told_by (checked cell o) r l) l
tells i c k (act.Commit t) r l = l
tells i c k (act.Abort t) r l = l
tells i c k (act.Suspect j) r l = l
tells i c k act.Order r l = l
tells i c k (act.Deliver j) r l = l
tells i c k (act.Stop j) r l = l
tells i c k (act.Start j) r l = l

abbrev pub told : ℕ → ℕ → ℕ → History → List (Statement × ℕ)
told i c k h = fold (tells i c k) [] h

abbrev pub statements_told : List (Statement × ℕ) → List Statement
statements_told = map (λ x. x.0)

abbrev pub results_told : List (Statement × ℕ) → List ℕ
results_told = map (λ x. x.1)

-- The messages that were sent: an obeyed commit sends what its client was told, with the server's epoch; an obeyed suspect
-- sends the epoch.
abbrev pub commit_of : ℕ → ℕ → ℕ → History → Tx
commit_of i c k h =
    record { sender = i; epoch = (standing i h).epoch; client = c; job = k; stmts = statements_told (told i c k h); results = results_told (told i c k h) }

abbrev pub if_done : Answer → Msg → List Msg
if_done answer.Done m = m ∷ []
if_done (answer.Result x) m = []
if_done (answer.Ordered p) m = []
if_done (answer.Delivered p j) m = []
if_done (answer.Refused e) m = []

abbrev pub sent_by : Act → Answer → History → List Msg
sent_by (act.Commit t) r h = if_done r (transaction (commit_of t.server t.client t.job h))
sent_by (act.Suspect i) r h = if_done r (epoch_change i (standing i h).epoch)
sent_by (act.Begin t) r h = []
sent_by (act.Run t cell o) r h = []
sent_by (act.Abort t) r h = []
sent_by act.Order r h = []
sent_by (act.Deliver i) r h = []
sent_by (act.Stop i) r h = []
sent_by (act.Start i) r h = []

-- By the acts of the second history, which came after those of the first.
abbrev pub sent_after : History → History → List Msg
sent_after g [] = []
sent_after g (x ∷ h) = sent_by x.act x.answer g ++ sent_after (g ++ x ∷ []) h

abbrev pub all_sent : History → List Msg
all_sent h = sent_after [] h

-- How many acts of a kind were obeyed.
abbrev pub is_commit : Act → Bool
is_commit (act.Commit t) = true
is_commit (act.Begin t) = false
is_commit (act.Run t cell o) = false
is_commit (act.Abort t) = false
is_commit (act.Suspect i) = false
is_commit act.Order = false
is_commit (act.Deliver i) = false
is_commit (act.Stop i) = false
is_commit (act.Start i) = false

abbrev pub is_suspect : Act → Bool
is_suspect (act.Suspect i) = true
is_suspect (act.Begin t) = false
is_suspect (act.Run t cell o) = false
is_suspect (act.Commit t) = false
is_suspect (act.Abort t) = false
is_suspect act.Order = false
is_suspect (act.Deliver i) = false
is_suspect (act.Stop i) = false
is_suspect (act.Start i) = false

abbrev pub how_many : (Act → Bool) → History → ℕ
how_many f h = fold (λ a r n. cond (f a && obeyed r) (n + 1) n) 0 h
