-- What each obeyed act leaves, written with the shut `upd`, and what is known where it is obeyed. From the calls of a replica.
use Rattle.std.proofs.Common.{◌≡◌, ℕ, ◌+◌, ◌<◌, ◌≤◌, Bool, true, false, cond, ◌≢◌, ◌⊎◌, List, [], ◌∷◌, ◌++◌, length, drop, Some, None, Option, refl, ap, ◌∙◌}
use Rattle.statement.specs.declared.operation.Operation.{Operation}
use Rattle.statement.specs.declared.checked.Statement.{Statement}
use Rattle.statement.specs.Operations.{changed, answered}
use Rattle.statement.specs.Making.{checked}
use Rattle.replica.specs.Meanings.{Slot, Meaning, put, upd, or_else, fresh, all_stepped}
use Rattle.replica.specs.Calls.{opened, run_answer, written_into, looked_at, ran, sealed, undone, taken_in, lost}
use Rattle.message.specs.Messages.{Tx, Msg, epoch_change, transaction}
use Rattle.journal.specs.Judging.{accepted, stale, committed, late, again, Summary, judge, at, primary}
use Rattle.journal.specs.Verdicts.{judged_of}
use Rattle.journal.specs.declared.verdicts.Judgement.{Judgement}
use Rattle.pronto.specs.Servers.{Work, Site, new_work, noted, begun, worked, sent_off, ended, past, lifted, risen, seals, takes, stopped, started}
use Rattle.pronto.specs.States.{State, change, with_messages}
use Rattle.pronto.specs.Acts.{message_of}
use Rattle.pronto.specs.declared.acts.TransactionId.{TransactionId}
use Rattle.pronto.specs.declared.acts.Act.{Act}
use Rattle.pronto.specs.declared.acts.Act.TheVariants as act
use Rattle.pronto.specs.declared.acts.Answer.{Answer}
use Rattle.pronto.specs.declared.acts.Answer.TheVariants as answer
use Rattle.pronto.proofs.Clear.{writes}

abbrev pub with_slots : Meaning → (ℕ → Option Slot) → Meaning
with_slots m f = record { cells = m.cells; mark = m.mark; slots = f }

abbrev pub work : Site → (ℕ → Option Work) → Meaning → Site
work v f m = record { running = v.running; epoch = v.epoch; delivered = v.delivered; bar = v.bar; rows = f; db = m }

-- a slot after a statement, which found the value x, in the unit u
abbrev pub ran_in : Statement → ℕ → ℕ → Slot → Slot
ran_in a u x k =
    record {
      reads = cond (writes a) k.reads (upd k.reads u true);
      writes = cond (writes a) (upd k.writes u true) k.writes;
      own = cond (writes a) (upd k.own a.cell (Some (changed a.operation x))) k.own;
    }

-- what a statement finds in a slot
abbrev pub found : Meaning → Slot → Statement → ℕ
found m k a = or_else (k.own a.cell) (m.cells a.cell)

-- the lock that the statement wants stands against the slot's
abbrev pub Hinders : Statement → ℕ → Slot → Type 0
Hinders a u k = (k.writes u ≡ true) ⊎ ((writes a ≡ true) × (k.reads u ≡ true))

abbrev pub opening : Site → ℕ → ℕ → ℕ → Site
opening v p c k = work v (upd v.rows p (Some (new_work c k))) (with_slots v.db (upd v.db.slots p (Some fresh)))

pub begun_is : (v : Site) (p c k : ℕ) → begun v p c k ≡ opening v p c k
unfolding opened upd
begun_is v p c k = refl

-- unit u, transaction w and slot k at p
abbrev pub working : Site → ℕ → Work → Slot → Statement → ℕ → Site
working v p w k a u =
    work v (upd v.rows p (Some (noted w a (answered a.operation (found v.db k a)))))
    (with_slots v.db (upd v.db.slots p (Some (ran_in a u (found v.db k a) k))))

pub answer_is : (m : Meaning) (p : ℕ) (k : Slot) (a : Statement) → m.slots p ≡ Some k → run_answer m p a ≡ answered a.operation (found m k a)
unfolding run_answer
answer_is m p k a e = ap (λ (o : Option Slot). answered a.operation (or_else ((or_else o fresh).own a.cell) (m.cells a.cell))) e

ran_is : (unit : ℕ → ℕ) (m : Meaning) (p : ℕ) (k : Slot) (a : Statement) → m.slots p ≡ Some k →
    ran unit m p a ≡ with_slots m (upd m.slots p (Some (ran_in a (unit a.cell) (found m k a) k)))
unfolding ran written_into looked_at upd
ran_is unit m p k a e = by (writes a) (m.slots p) e
  where
    by : (b : Bool) (o : Option Slot) → o ≡ Some k →
        cond b
        (record {
          cells = m.cells;
          mark = m.mark;
          slots = put m.slots p (Some (record {
            reads = (or_else o fresh).reads;
            writes = put (or_else o fresh).writes (unit a.cell) true;
            own = put (or_else o fresh).own a.cell (Some (changed a.operation (or_else ((or_else o fresh).own a.cell) (m.cells a.cell))));
          }));
        })
        (record {
          cells = m.cells;
          mark = m.mark;
          slots = put m.slots p (Some (record {
            reads = put (or_else o fresh).reads (unit a.cell) true;
            writes = (or_else o fresh).writes;
            own = (or_else o fresh).own;
          }));
        })
        ≡ with_slots m (upd m.slots p (Some (record {
          reads = cond b k.reads (upd k.reads (unit a.cell) true);
          writes = cond b (upd k.writes (unit a.cell) true) k.writes;
          own = cond b (upd k.own a.cell (Some (changed a.operation (found m k a)))) k.own;
        })))
    by true o f = rw f refl
    by false o f = rw f refl

pub worked_is : (unit : ℕ → ℕ) (v : Site) (p : ℕ) (w : Work) (k : Slot) (a : Statement) → v.db.slots p ≡ Some k →
    worked unit v p w a ≡ working v p w k a (unit a.cell)
worked_is unit v p w k a e =
    ap (λ x. work v (upd v.rows p (Some (noted w a x))) (ran unit v.db p a)) (answer_is v.db p k a e)
    ∙ ap (work v (upd v.rows p (Some (noted w a (answered a.operation (found v.db k a)))))) (ran_is unit v.db p k a e)

abbrev pub closing : Site → ℕ → Site
closing v p = work v (upd v.rows p None) (with_slots v.db (upd v.db.slots p None))

pub ended_is : (v : Site) (p : ℕ) → ended v p ≡ closing v p
unfolding undone upd
ended_is v p = refl

abbrev pub rising : Site → Site
rising v = record {
  running = v.running;
  epoch = v.epoch + 1;
  delivered = v.delivered + 1;
  bar = lifted v.delivered v.bar;
  rows = λ _. None;
  db = with_slots v.db (λ _. None);
}

pub risen_is : (v : Site) → risen v ≡ rising v
unfolding lost
risen_is v = refl

abbrev pub sealing : Site → ℕ → Slot → Site
sealing v p k =
    work (past v) (upd v.rows p None)
    (record { cells = λ c. or_else (k.own c) (v.db.cells c); mark = v.delivered + 1; slots = upd v.db.slots p None })

pub seals_is : (v : Site) (p : ℕ) (k : Slot) → v.db.slots p ≡ Some k → seals v p ≡ sealing v p k
unfolding sealed upd
seals_is v p k e =
    ap (λ (o : Option Slot). work (past v) (upd v.rows p None)
    (record { cells = λ c. or_else ((or_else o fresh).own c) (v.db.cells c); mark = v.delivered + 1; slots = upd v.db.slots p None })) e

abbrev pub taking : Site → List Statement → Site
taking v t = work (past v) v.rows (record { cells = all_stepped v.db.cells t; mark = v.delivered + 1; slots = v.db.slots })

pub takes_is : (v : Site) (t : List Statement) → takes v t ≡ taking v t
unfolding taken_in
takes_is v t = refl

abbrev pub stopping : Site → Site
stopping v = record { running = false; epoch = 1; delivered = 0; bar = v.bar; rows = λ _. None; db = with_slots v.db (λ _. None) }

pub stopped_is : (v : Site) → stopped v ≡ stopping v
unfolding lost
stopped_is v = refl

-- the message is the server's own, by the transaction in slot p
pub record Own (i : ℕ) (v : Site) (t : Tx) (p : ℕ) (w : Work) : Type 0 where
  pub sent : t.sender ≡ i
  pub epoch : t.epoch ≡ v.epoch
  pub open_row : v.rows p ≡ Some w
  pub committing : w.committing ≡ true
  pub client : t.client ≡ w.client
  pub job : t.job ≡ w.job

-- what a deliver of the message m, judged against j, makes of the server
pub data Delivers (i : ℕ) (v : Site) (j : Summary) (m : Msg) (w : Site) : Type 0 where
  rises : judge j m ≡ accepted → w ≡ rising v → Delivers i v j m w
  is_stale : judge j m ≡ stale → w ≡ past v → Delivers i v j m w
  is_late : judge j m ≡ late → w ≡ past v → Delivers i v j m w
  seals_own : (t : Tx) (p : ℕ) (x : Work) (k : Slot) → m ≡ transaction t → judge j m ≡ committed → Own i v t p x → v.db.slots p ≡ Some k →
      w ≡ sealing v p k → Delivers i v j m w
  takes_in : (t : Tx) → m ≡ transaction t → judge j m ≡ committed → ((p : ℕ) (x : Work) → Own i v t p x → ⊥) → v.db.mark ≤ v.delivered →
      w ≡ taking v t.stmts → Delivers i v j m w
  has_it : (t : Tx) → m ≡ transaction t → judge j m ≡ committed → ((p : ℕ) (x : Work) → Own i v t p x → ⊥) → v.delivered < v.db.mark →
      w ≡ past v → Delivers i v j m w
  ends_own : (t : Tx) (p : ℕ) (x : Work) (q : ℕ) → m ≡ transaction t → judge j m ≡ again q → Own i v t p x → w ≡ past (closing v p) → Delivers i v j m w
  passes : (t : Tx) (q : ℕ) → m ≡ transaction t → judge j m ≡ again q → ((p : ℕ) (x : Work) → Own i v t p x → ⊥) → w ≡ past v → Delivers i v j m w

-- the transaction of client c's job k in slot p of a running server, still executing
pub record Executes (v : Site) (c k : ℕ) (p : ℕ) (w : Work) : Type 0 where
  pub up : v.running ≡ true
  pub open_row : v.rows p ≡ Some w
  pub client : w.client ≡ c
  pub job : w.job ≡ k
  pub state : w.committing ≡ false

-- an obeyed act: what is known where it is obeyed, and what it leaves
pub data Obeys (s s' : State) : Act → Answer → Type 0 where
  begins : (t : TransactionId) (p : ℕ) → (s.servers t.server).running ≡ true → t.server ≡ primary s.count (s.servers t.server).epoch →
      (s.servers t.server).bar ≡ None →
      ((q : ℕ) (w : Work) → (s.servers t.server).rows q ≡ Some w → w.client ≡ t.client → w.job ≡ t.job → ⊥) →
      (s.servers t.server).rows p ≡ None → p < 8 →
      s' ≡ change s t.server (opening (s.servers t.server) p t.client t.job) → Obeys s s' (act.Begin t) answer.Done
  runs_it : (t : TransactionId) (c : ℕ) (o : Operation) (p : ℕ) (w : Work) (k : Slot) (a : Statement) → checked c o ≡ Some a →
      Executes (s.servers t.server) t.client t.job p w → (s.servers t.server).db.slots p ≡ Some k →
      ((q : ℕ) (k' : Slot) → q ≢ p → (s.servers t.server).db.slots q ≡ Some k' → Hinders a (s.units t.server a.cell) k' → ⊥) →
      s' ≡ change s t.server (working (s.servers t.server) p w k a (s.units t.server a.cell)) →
      Obeys s s' (act.Run t c o) (answer.Result (answered a.operation (found (s.servers t.server).db k a)))
  commits : (t : TransactionId) (p : ℕ) (w : Work) (V W : List Msg) → Executes (s.servers t.server) t.client t.job p w →
      length s.log + length s.waiting < s.capacity → s.waiting ≡ V ++ W →
      s' ≡ with_messages (change s t.server (sent_off (s.servers t.server) p w)) s.log
      (V ++ message_of t.server (s.servers t.server) w ∷ W) (s.sent + 1) →
      Obeys s s' (act.Commit t) answer.Done
  aborts : (t : TransactionId) (p : ℕ) (w : Work) → Executes (s.servers t.server) t.client t.job p w →
      s' ≡ change s t.server (closing (s.servers t.server) p) → Obeys s s' (act.Abort t) answer.Done
  suspects : (i : ℕ) (V W : List Msg) → length s.log + length s.waiting < s.capacity → s.waiting ≡ V ++ W →
      s' ≡ with_messages s s.log (V ++ epoch_change i (s.servers i).epoch ∷ W) (s.sent + 1) →
      Obeys s s' (act.Suspect i) answer.Done
  orders : (m : Msg) (V W : List Msg) → s.waiting ≡ V ++ m ∷ W → s' ≡ with_messages s (s.log ++ m ∷ []) (V ++ W) s.sent →
      Obeys s s' act.Order (answer.Ordered (length s.log))
  delivers : (i : ℕ) (m : Msg) (rest : List Msg) (w : Site) (j : Judgement) → (s.servers i).running ≡ true → drop (s.servers i).delivered s.log ≡ m ∷ rest →
      judge (at s.log (s.servers i).delivered) m ≡ judged_of j →
      Delivers i (s.servers i) (at s.log (s.servers i).delivered) m w → s' ≡ change s i w →
      Obeys s s' (act.Deliver i) (answer.Delivered (s.servers i).delivered j)
  stops : (i : ℕ) → s' ≡ change s i (stopping (s.servers i)) → Obeys s s' (act.Stop i) answer.Done
  starts : (i : ℕ) → (s.servers i).running ≡ false → s' ≡ change s i (started (s.servers i) (length s.log)) → Obeys s s' (act.Start i) answer.Done
