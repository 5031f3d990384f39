-- The replication law: what holds at every moment of any list of acts on a new ensemble.
use Rattle.std.specs.Prelude.{◌≡◌, ℕ, ◌+◌, ◌≤◌, max, List, ◌∷◌, ◌++◌, length, is_some}
use mathlib.Core.List.{Perm}
use Rattle.replica.specs.Meanings.{Meaning, is_open}
use Rattle.message.specs.Messages.{Tx, Msg, transaction}
use Rattle.journal.specs.Runs.{answers}
use Rattle.journal.specs.Judging.{committed, at}
use Rattle.journal.specs.Positions.{Stands, single_run}
use Rattle.journal.specs.Verdicts.{judged_of}
use Rattle.journal.specs.declared.verdicts.Judgement.{Judgement}
use Rattle.pronto.specs.Servers.{Site}
use Rattle.pronto.specs.States.{State, new_state}
use Rattle.pronto.specs.Steps.{LeadsTo}
use Rattle.pronto.specs.Histories.{History, Standing, standing, told, statements_told, results_told, commit_of, all_sent, is_commit, is_suspect, how_many}
use Rattle.pronto.specs.declared.faults.ServerFault.TheVariants as fault
use Rattle.pronto.specs.declared.refusals.Refusal.TheVariants as refusal
use Rattle.pronto.specs.declared.acts.TransactionId.{TransactionId}
use Rattle.pronto.specs.declared.acts.Act.{Act}
use Rattle.pronto.specs.declared.acts.Act.TheVariants as act
use Rattle.pronto.specs.declared.acts.Answer.{Answer}
use Rattle.pronto.specs.declared.acts.Answer.TheVariants as answer

-- What can be asked of a server about its place in the log.
abbrev pub standing_of : Site → Standing
standing_of v = record { epoch = v.epoch; delivered = v.delivered; mark = v.db.mark }

-- A history that ends with this act and answer and goes on with others.
abbrev pub Has : History → History → Act → Answer → History → Type 0
Has h earlier a r later = h ≡ earlier ++ record { act = a; answer = r } ∷ later

-- At a moment, after a history:
pub record Lawful (h : History) (s : State) : Type 0 where
  -- every database, of a running or a stopped server, has in every cell what the committed transactions among the log's first
  -- max(mark, delivered) messages leave, run one by one in log order from zeros
  pub cells : (i c : ℕ) → (s.servers i).db.cells c ≡ single_run s.log (max (standing i h).mark (standing i h).delivered) c
  -- the results that a client was told in a transaction whose message the log judges committed are those that the single run gives there
  pub confirmed : (earlier later : History) (t : TransactionId) (p : ℕ) → Has h earlier (act.Commit t) answer.Done later →
      Stands s.log p (transaction (commit_of t.server t.client t.job earlier)) committed →
      results_told (told t.server t.client t.job earlier) ≡ answers (statements_told (told t.server t.client t.job earlier)) (single_run s.log p)
  -- ordered and waiting messages are those that were sent: none is lost, made up or altered
  pub messages : Perm (s.log ++ s.waiting) (all_sent h)
  -- obeyed commits + obeyed suspicions = messages sent = ordered + waiting
  pub counted : (how_many is_commit h + how_many is_suspect h ≡ s.sent) × (s.sent ≡ length s.log + length s.waiting)
  -- a deliver answered how the log judges the message at the position that it told
  pub judgements : (earlier later : History) (i p : ℕ) (j : Judgement) → Has h earlier (act.Deliver i) (answer.Delivered p j) later →
      (m : Msg) × Stands s.log p m (judged_of j)
  -- epoch, delivered count and mark of every server are those that the answers told
  pub standings : (i : ℕ) → standing_of (s.servers i) ≡ standing i h
  -- a server's epoch is the one in force after what it delivered
  pub epochs : (i : ℕ) → (s.servers i).epoch ≡ (at s.log (s.servers i).delivered).epoch
  -- a server's row is open exactly if its slot is
  pub rows : (i p : ℕ) → is_some ((s.servers i).rows p) ≡ is_open (s.servers i).db p
  -- no database ever refused what its server's table says
  pub never_torn : (earlier later : History) (a : Act) (i : ℕ) → Has h earlier a (answer.Refused (refusal.Server i fault.Torn)) later → ⊥

-- A moment and a later one, with the history up to the first and what was added: both are lawful, and the first log begins the second.
pub record LawfulOn (h h' : History) (s s' : State) : Type 0 where
  pub first : Lawful h s
  pub second : Lawful (h ++ h') s'
  pub begins : (l : List Msg) × (s'.log ≡ s.log ++ l)

-- The law: of any ensemble of n servers, with at least n databases of any units and any broadcast of a capacity of at most 4096, made
-- new, and of any two moments of any list of acts.
abbrev pub Law : Type 0
Law =
    (capacity n databases : ℕ) (units : ℕ → ℕ → ℕ) (spare : ℕ → Meaning) → n ≤ databases → capacity ≤ 4096 →
    (h h' : History) (s s' : State) → LeadsTo (new_state capacity n databases units spare) h s → LeadsTo s h' s' → LawfulOn h h' s s'

-- Where a lawful log's transaction message comes from: an obeyed commit, and what its client was told.
pub record Origin (h : History) (t : Tx) : Type 0 where
  pub earlier : History
  pub later : History
  pub id : TransactionId
  pub server : id.server ≡ t.sender
  pub client : id.client ≡ t.client
  pub job : id.job ≡ t.job
  pub here : Has h earlier (act.Commit id) answer.Done later
  pub is : t ≡ commit_of t.sender t.client t.job earlier

-- So for each committed message there is the commit that sent it, and its client was told what the single run answers there.
abbrev pub ToldSo : Type 0
ToldSo =
    (h : History) (s : State) → Lawful h s → (p : ℕ) (t : Tx) → Stands s.log p (transaction t) committed →
    ∥ ((o : Origin h t) × (let x = told t.sender t.client t.job o.earlier in results_told x ≡ answers (statements_told x) (single_run s.log p))) ∥₁
