-- Every act has an answer: one way to play it, in some free slot and with the message that waits longest. From the definition of a step.
use Rattle.std.proofs.Common.{◌≡◌, ℕ, zero, suc, ◌+◌, ◌%◌, ◌^◌, ◌<◌, true, not, List, [], ◌∷◌, ◌++◌, length, is_some, Some, None, Ok, Err, Option, Result, sym, refl, ap, arith}
use Rattle.std.proofs.lemmas.List.{append-nil}
use Rattle.std.proofs.lemmas.Bool.{not-false}
use Rattle.replica.specs.Meanings.{upd, any_below}
use Rattle.message.specs.Messages.{Msg, epoch_change}
use Rattle.broadcast.specs.Bags.{nth}
use Rattle.journal.specs.Judging.{Judged, accepted, stale, committed, late, again}
use Rattle.journal.specs.Verdicts.{judged_of}
use Rattle.journal.specs.declared.verdicts.Judgement.{Judgement}
use Rattle.journal.specs.declared.verdicts.Judgement.TheVariants as judgement
use Rattle.pronto.specs.Servers.{Work, Site, begun, stopped, started}
use Rattle.pronto.specs.Refusing.{first, is_free, begin_table, begin_why, run_why, run_result, run_after, open_table, commit_after, abort_why, abort_after, running_table, start_table}
use Rattle.pronto.specs.Delivering.{if_next, verdict, deliver_table, deliver_why, deliver_after, Tells}
use Rattle.pronto.specs.States.{State, change, with_messages, with_servers, Did, why_at}
use Rattle.pronto.specs.Acts.{place, unless_full, Sends, message_to_commit}
use Rattle.pronto.specs.Steps.{done_of, result_of, delivered_of, Step, LeadsTo}
use Rattle.pronto.specs.Histories.{History}
use Rattle.pronto.specs.Example.{AlwaysAnswered}
use Rattle.pronto.specs.declared.refusals.Refusal.{Refusal}
use Rattle.pronto.specs.declared.refusals.Refusal.TheVariants as refusal
use Rattle.pronto.specs.declared.acts.Act.{Act}
use Rattle.pronto.specs.declared.acts.Act.TheVariants as act
use Rattle.pronto.specs.declared.acts.Answer.{Answer}
use Rattle.pronto.specs.declared.acts.Answer.TheVariants as answer
use Rattle.pronto.proofs.Tables.{fails, and_then_none, why_none}
use Rattle.pronto.proofs.Told.{entry}

-- the result of an act with this refusal, if any, and the state that it leaves
abbrev pub result : {T : Type 0} → Option Refusal → T → Result T Refusal
result None x = Ok x
result (Some e) x = Err e

abbrev pub left : Option Refusal → State → State → State
left None before done = done
left (Some e) before done = before

pub did : {T : Type 0} (why : Option Refusal) (Right : T → Type 0) (x : T) (s done : State) → (why ≡ None → Right x) → Did (result why x) why Right s (left why s done) done
did None Right x s done f = (refl, f refl, refl)
did (Some e) Right x s done f = (refl, refl)

abbrev pub sending : State → Msg → (ℕ → Site) → State
sending s m f = with_messages (with_servers s f) s.log (s.waiting ++ m ∷ []) ((s.sent + 1) % 2 ^ 64)

pub sent : (s : State) (m : Msg) (f : ℕ → Site) (why : Option Refusal) → Sends s m f why (result why tt) (left why s (sending s m f))
sent s m f None = (refl, record { front = s.waiting; back = []; old = sym (append-nil s.waiting); new = refl }, refl)
sent s m f (Some e) = (refl, refl)

-- a free row, where there is one
abbrev pub higher : Option Work → ℕ → ℕ → ℕ
higher None p below = p
higher (Some w) p below = below

abbrev pub free_row : (ℕ → Option Work) → ℕ → ℕ
free_row rows zero = 0
free_row rows (suc n) = higher (rows n) n (free_row rows n)

free_is : (rows : ℕ → Option Work) (n : ℕ) → any_below n (λ p. not (is_some (rows p))) ≡ true → (free_row rows n < n) × (rows (free_row rows n) ≡ None)
free_is rows zero h = let z : ◌≡◌ {A = ℕ} 0 1 = cc in absurd (omega arith)
free_is rows (suc n) h = by (rows n) refl (free_is rows n) h
  where
    by : (o : Option Work) → rows n ≡ o → (any_below n (λ p. not (is_some (rows p))) ≡ true → (free_row rows n < n) × (rows (free_row rows n) ≡ None)) →
        any_below (suc n) (λ p. not (is_some (rows p))) ≡ true → (higher o n (free_row rows n) < suc n) × (rows (higher o n (free_row rows n)) ≡ None)
    by None e ih k = (omega arith, e)
    by (Some w) e ih k = let r = ih (rw e at k) in let lt = r.0 in (omega arith, r.1)

abbrev pub slot_for : State → ℕ → ℕ
slot_for s i = free_row (s.servers i).rows 8

-- a judgement in the code's words
abbrev pub judgement_of : Judged → Judgement
judgement_of accepted = judgement.Accepted
judgement_of stale = judgement.Stale
judgement_of committed = judgement.Committed
judgement_of late = judgement.Late
judgement_of (again p) = judgement.Again p

same_judged : (x : Judged) → x ≡ judged_of (judgement_of x)
same_judged accepted = refl
same_judged stale = refl
same_judged committed = refl
same_judged late = refl
same_judged (again p) = refl

abbrev pub delivery : State → ℕ → ℕ × Judgement
delivery s i =
    ((s.servers i).delivered, if_next (nth s.log (s.servers i).delivered) judgement.Accepted (λ m. judgement_of (verdict s.log (s.servers i) m)))

pub tells_next : (s : State) (i : ℕ) → deliver_why s.log s.databases (place i) i (s.servers i) ≡ None → Tells s.log (s.servers i) (delivery s i)
unfolding deliver_why Tells
tells_next s i free =
    let v = s.servers i in
    let q = fails (deliver_table s.log v) (and_then_none (first (deliver_table s.log v)) _ free).0 in
    (refl, by (nth s.log v.delivered) (not-false (is_some (nth s.log v.delivered)) q.1.0))
  where
    by : (o : Option Msg) → is_some o ≡ true →
        if_next o None (λ m. Some (verdict s.log (s.servers i) m)) ≡ Some (judged_of (if_next o judgement.Accepted (λ m. judgement_of (verdict s.log (s.servers i) m))))
    by None e = let z : ◌≡◌ {A = ℕ} 0 1 = cc in absurd (omega arith)
    by (Some m) e = ap Some (same_judged (verdict s.log (s.servers i) m))

pub free_slot : (s : State) (i c k : ℕ) → first (begin_table s.count i (s.servers i) c k) ≡ None → (slot_for s i < 8) × ((s.servers i).rows (slot_for s i) ≡ None)
free_slot s i c k free =
    let q = fails (begin_table s.count i (s.servers i) c k) free in
    free_is (s.servers i).rows 8 (not-false (any_below 8 (is_free (s.servers i))) q.1.1.1.1.1.0)

abbrev pub order_one : (s : State) (l : List Msg) → s.waiting ≡ l → (r : Answer) × (s' : State) × Step s act.Order r s'
order_one s [] e = (answer.Refused refusal.NothingWaits, s, (Err refusal.NothingWaits, refl, (e, refl, refl)))
order_one s (m ∷ l) e = (
  answer.Ordered (length s.log),
  with_messages s (s.log ++ m ∷ []) l s.sent,
  (Ok (length s.log), refl, (refl, record { message = m; taken = record { front = []; back = l; old = refl; new = e }; added = refl }, refl)),
)

unfoldable pub answered : AlwaysAnswered
answered s (act.Begin t) =
    let i = t.server in
    let p = slot_for s i in
    let why = why_at s i (λ v. begin_why s.databases (place i) s.count i v t.client t.job p) in
    let done = change s i (begun (s.servers i) p t.client t.job) in
    (done_of (result why tt), left why s done, (result why tt, refl, record { slot = p; free = free_slot s i t.client t.job; did = did why _ tt s done (λ _. tt) }))
answered s (act.Run t c o) =
    let i = t.server in
    let why = why_at s i (λ v. run_why (s.units i) v t.client t.job c o) in
    let x = run_result (s.servers i) t.client t.job c o in
    let done = change s i (run_after (s.units i) (s.servers i) t.client t.job c o) in
    (result_of (result why x), left why s done, (result why x, refl, did why _ x s done (λ _. refl)))
answered s (act.Commit t) =
    let i = t.server in
    let v = s.servers i in
    let why = unless_full s i (why_at s i (λ v. first (open_table v t.client t.job))) in
    let m = message_to_commit i v t.client t.job in
    let f = upd s.servers i (commit_after v t.client t.job) in
    (done_of (result why tt), left why s (sending s m f), (result why tt, refl, sent s m f why))
answered s (act.Abort t) =
    let i = t.server in
    let why = why_at s i (λ v. abort_why v t.client t.job) in
    let done = change s i (abort_after (s.servers i) t.client t.job) in
    (done_of (result why tt), left why s done, (result why tt, refl, did why _ tt s done (λ _. tt)))
answered s (act.Suspect i) =
    let why = unless_full s i (why_at s i (λ v. first (running_table v))) in
    let m = epoch_change i (s.servers i).epoch in
    (done_of (result why tt), left why s (sending s m s.servers), (result why tt, refl, sent s m s.servers why))
answered s act.Order = order_one s s.waiting refl
answered s (act.Deliver i) =
    let why = why_at s i (deliver_why s.log s.databases (place i) i) in
    let x = delivery s i in
    let done = change s i (deliver_after s.log i (s.servers i)) in
    (delivered_of (result why x), left why s done, (result why x, refl, did why (Tells s.log (s.servers i)) x s done (λ free. tells_next s i (why_none s i _ free))))
answered s (act.Stop i) =
    let why = why_at s i (λ v. first (running_table v)) in
    let done = change s i (stopped (s.servers i)) in
    (done_of (result why tt), left why s done, (result why tt, refl, did why _ tt s done (λ _. tt)))
answered s (act.Start i) =
    let why = why_at s i (λ v. first (start_table v)) in
    let done = change s i (started (s.servers i) (length s.log)) in
    (done_of (result why tt), left why s done, (result why tt, refl, did why _ tt s done (λ _. tt)))

-- a list of acts, played so: its history, and the state that it leads to
abbrev pub story : State → List Act → History
story s [] = []
story s (a ∷ l) = entry a (answered s a).0 ∷ story (answered s a).1 l

abbrev pub moment : State → List Act → State
moment s [] = s
moment s (a ∷ l) = moment (answered s a).1 l

pub plays : (s : State) (l : List Act) → LeadsTo s (story s l) (moment s l)
plays s [] = refl
plays s (a ∷ l) = ((answered s a).1, (answered s a).2, plays (answered s a).1 l)
