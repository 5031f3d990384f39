-- Every act is obeyed as the proofs see it, or refused with nothing changed and no tear: by the invariant a database holds what its
-- server's table says.
use Rattle.std.proofs.Common.{◌≡◌, ℕ, zero, suc, ◌+◌, ◌%◌, ◌^◌, ◌<◌, Bool, true, false, cond, not, ◌&&◌, ◌||◌, eqb, ltb, ◌≢◌, List, [], ◌∷◌, ◌++◌, length, drop, is_some, Some, None, Ok, Err, Option, Result, sym, refl, ap, ◌∙◌, subst, inl, inr, mod-eq_of_lt, arith}
use Rattle.std.proofs.lemmas.Bool.{not-false, not_from_false, eqb-true, eq-eqb, ne_eqb, leb-false, ltb-true, ltb-false, and_from, or_left, or_right, both_ways, cond-true}
use Rattle.statement.specs.declared.operation.Operation.{Operation}
use Rattle.statement.specs.declared.checked.Statement.{Statement}
use Rattle.statement.specs.Making.{missing, checked}
use Rattle.statement.proofs.Numbers.{checked_made}
use Rattle.replica.specs.Meanings.{Slot, Meaning, upd, any_below, or_else, fresh, is_open, slot_of, excludes, busy}
use Rattle.replica.specs.Calls.{run_answer}
use Rattle.replica.specs.Refusals.{run_refusal, undo_refusal, intake_refusal}
use Rattle.replica.proofs.Refused.{open_free, undo_free, seal_free, run_busy, run_free, intake_free}
use Rattle.replica.proofs.Indices.{any_none}
use Rattle.message.specs.Messages.{Tx, Msg, epoch_change, transaction}
use Rattle.broadcast.specs.Bags.{nth, Inserted}
use Rattle.journal.specs.Judging.{Judged, accepted, stale, committed, late, again, Summary, judge, at, primary}
use Rattle.journal.specs.Verdicts.{judged_of}
use Rattle.journal.specs.declared.verdicts.Judgement.{Judgement}
use Rattle.journal.proofs.Fronts.{length_here, sees}
use Rattle.journal.proofs.Fronts as front
use Rattle.pronto.specs.Servers.{Work, Site, worked, sent_off, ended, past, takes}
use Rattle.pronto.specs.Refusing.{first, up, at_place, seek, find, if_found, is_committing, begin_table, begin_why, run_table, if_statement, run_why, run_result, run_after, open_table, commit_after, abort_why, abort_after, running_table, start_table}
use Rattle.pronto.specs.Delivering.{own_slot, commit_why, commit_at, again_why, again_at, handle_why, handled, if_next, verdict, deliver_table, deliver_why, deliver_after, Tells}
use Rattle.pronto.specs.States.{State, no_server, is_full, change, with_messages, with_servers}
use Rattle.pronto.specs.Acts.{place, Begin, Run, Commit, Abort, Suspect, Order, Deliver, Stop, Start, message_of, message_to_commit}
use Rattle.pronto.specs.Steps.{done_of, result_of, ordered_of, delivered_of, Step}
use Rattle.pronto.specs.declared.faults.ServerFault.{ServerFault}
use Rattle.pronto.specs.declared.refusals.Refusal.{Refusal}
use Rattle.pronto.specs.declared.acts.TransactionId.{TransactionId}
use Rattle.pronto.specs.declared.acts.Act.{Act}
use Rattle.pronto.specs.declared.acts.Act.TheVariants as act
use Rattle.pronto.specs.declared.acts.Answer.{Answer}
use Rattle.pronto.specs.declared.acts.Answer.TheVariants as answer
use Rattle.pronto.proofs.Clear.{writes}
use Rattle.pronto.proofs.Views.{Hinders, begun_is, worked_is, answer_is, ended_is, risen_is, seals_is, takes_is, stopped_is, Own, Executes, Obeys, begins, runs_it, commits, aborts, suspects, orders, delivers, stops, starts, Delivers, rises, is_stale, is_late, seals_own, takes_in, has_it, ends_own, passes}
use Rattle.pronto.proofs.Invariant.{Local, Known, Inv}
use Rattle.pronto.proofs.Rows.{none_some, slot_there, linked_open}
use Rattle.pronto.proofs.Delivers.{quiet}
use Rattle.pronto.proofs.Kept.{known_at}
use Rattle.pronto.proofs.Tables.{some_is, none_is, fails, and_then_none, Whole, WholeRefusal, first_whole, and_then_whole, up_none, why_none, why_some, full_none, full_some, place_free, seek_some, seek_none, nth_drop}

pub data Turned (s s' : State) (a : Act) (r : Answer) : Type 0 where
  obeys : Obeys s s' a r → Turned s s' a r
  refuses : (e : Refusal) → r ≡ answer.Refused e → WholeRefusal e → s' ≡ s → Turned s s' a r

-- the transaction that an act names
record Ready (v : Site) (c k : ℕ) : Type 0 where
  slot : ℕ
  row : Work
  is : find v c k ≡ Some (slot, row)
  fine : Executes v c k slot row

ready : (v : Site) (c k : ℕ) → not v.running ≡ false → not (is_some (find v c k)) ≡ false → is_committing (find v c k) ≡ false → Ready v c k
ready v c k a b d =
    let f = some_is (find v c k) (not-false (is_some (find v c k)) b) in
    let g = seek_some v.rows c k 8 f.0 f.1 in
    record {
      slot = f.0.0;
      row = f.0.1;
      is = f.1;
      fine = record { up = not-false v.running a; open_row = g.here; client = g.client; job = g.job; state = sym (ap is_committing f.1) ∙ d };
    }

-- what no slot hinders
no_lock : (m : Meaning) (p u : ℕ) (a : Statement) → busy m p u (writes a) ≡ false → (q : ℕ) (k : Slot) → q < 8 → q ≢ p → m.slots q ≡ Some k → Hinders a u k → ⊥
no_lock m p u a idle q k lt ne here hinders =
    both_ways (excludes m p u (writes a) q) (any_none 8 (excludes m p u (writes a)) idle q lt)
    (and_from (not (eqb q p) && is_open m q) ((slot_of m q).writes u || (writes a && (slot_of m q).reads u))
    (and_from (not (eqb q p)) (is_open m q) (not_from_false (eqb q p) (ne_eqb q p ne)) (ap is_some here))
    (locked hinders))
  where
    is : slot_of m q ≡ k
    is = ap (λ (o : Option Slot). or_else o fresh) here

    locked : Hinders a u k → ((slot_of m q).writes u || (writes a && (slot_of m q).reads u)) ≡ true
    locked (inl x) = or_left ((slot_of m q).writes u) (writes a && (slot_of m q).reads u) (ap (λ (z : Slot). z.writes u) is ∙ x)
    locked (inr x) =
        or_right ((slot_of m q).writes u) (writes a && (slot_of m q).reads u)
        (and_from (writes a) ((slot_of m q).reads u) x.0 (ap (λ (z : Slot). z.reads u) is ∙ x.1))

-- the statement of numbers that exist
made : (c : ℕ) (o : Operation) → is_some (missing c o) ≡ false → (a : Statement) × (checked c o ≡ Some a)
made c o h = some_is (checked c o) (checked_made c o ∙ ap not h)

-- a choice by what is found, and one by the statement too
at_found : {X : Type 0} (o : Option (ℕ × Work)) (p : ℕ) (w : Work) (x : X) (f : ℕ → Work → X) → o ≡ Some (p, w) → if_found o x f ≡ f p w
at_found o p w x f e = ap (λ (z : Option (ℕ × Work)). if_found z x f) e

at_made : {X : Type 0} (m : Option Statement) (a : Statement) (o : Option (ℕ × Work)) (p : ℕ) (w : Work) (x : X) (f : Statement → ℕ → Work → X) →
    m ≡ Some a → o ≡ Some (p, w) → if_statement m x (λ b. if_found o x (f b)) ≡ f a p w
at_made m a o p w x f d e = ap (λ (z : Option Statement). if_statement z x (λ b. if_found o x (f b))) d ∙ at_found o p w x (f a) e

-- a run that its open slot does not refuse, and one that it does
not_busy : (unit : ℕ → ℕ) (m : Meaning) (p : ℕ) (a : Statement) → is_open m p ≡ true → up (run_refusal unit m p a) ≡ None → busy m p (unit a.cell) (writes a) ≡ false
not_busy unit m p a opened none = go (busy m p (unit a.cell) (writes a)) refl
  where
    go : (b : Bool) → busy m p (unit a.cell) (writes a) ≡ b → b ≡ false
    go true e = absurd (none_some _ _ none (ap up (run_busy m p unit a opened e)))
    go false e = refl

run_up : (unit : ℕ → ℕ) (m : Meaning) (p : ℕ) (a : Statement) → is_open m p ≡ true → Whole (up (run_refusal unit m p a))
run_up unit m p a opened = go (busy m p (unit a.cell) (writes a)) refl
  where
    go : (b : Bool) → busy m p (unit a.cell) (writes a) ≡ b → Whole (up (run_refusal unit m p a))
    go true e = rw (run_busy m p unit a opened e) refl
    go false e = rw (run_free m p unit a opened e) tt

none_below : (n : ℕ) (f : ℕ → Bool) → ((k : ℕ) → f k ≡ false) → any_below n f ≡ false
none_below zero f h = refl
none_below (suc n) f h = rw (h n) (none_below n f h)

-- a server's own message
own_some : (i : ℕ) (v : Site) (t : Tx) (p : ℕ) → own_slot i v t ≡ Some p → (w : Work) × Own i v t p w
own_some i v t p h = sender (eqb t.sender i) refl h
  where
    committing : (y : ℕ × Work) (b : Bool) → y.1.committing ≡ b → cond b (Some y.0) None ≡ Some p → (y.0 ≡ p) × (y.1.committing ≡ true)
    committing y true e g = (cc, e)
    committing y false e g = absurd (none_some None p refl g)

    row : t.sender ≡ i → t.epoch ≡ v.epoch → (o : Option (ℕ × Work)) → seek v.rows t.client t.job 8 ≡ o →
        if_found o None (λ q w. cond w.committing (Some q) None) ≡ Some p → (w : Work) × Own i v t p w
    row es ee None is g = absurd (none_some None p refl g)
    row es ee (Some y) is g =
        let c = committing y y.1.committing refl g in
        let f = seek_some v.rows t.client t.job 8 y is in
        (y.1, record { sent = es; epoch = ee; open_row = rw c.0 at f.here; committing = c.1; client = sym f.client; job = sym f.job })

    epoch : t.sender ≡ i → (b : Bool) → eqb t.epoch v.epoch ≡ b →
        cond b (if_found (seek v.rows t.client t.job 8) None (λ q w. cond w.committing (Some q) None)) None ≡ Some p → (w : Work) × Own i v t p w
    epoch es true e g = row es (eqb-true t.epoch v.epoch e) (seek v.rows t.client t.job 8) refl g
    epoch es false e g = absurd (none_some None p refl g)

    sender : (b : Bool) → eqb t.sender i ≡ b →
        cond b (cond (eqb t.epoch v.epoch) (if_found (seek v.rows t.client t.job 8) None (λ q w. cond w.committing (Some q) None)) None) None ≡ Some p →
        (w : Work) × Own i v t p w
    sender true e g = epoch (eqb-true t.sender i e) (eqb t.epoch v.epoch) refl g
    sender false e g = absurd (none_some None p refl g)

own_none : (n : ℕ) (unit : ℕ → ℕ) (i : ℕ) (v : Site) → Local n unit i v → (t : Tx) → own_slot i v t ≡ None → (p : ℕ) (w : Work) → Own i v t p w → ⊥
own_none n unit i v h t none p w o =
    row (seek v.rows t.client t.job 8) refl
    (sym (cond-true (eqb t.epoch v.epoch) _ None (eq-eqb t.epoch v.epoch o.epoch)) ∙ sym (cond-true (eqb t.sender i) _ None (eq-eqb t.sender i o.sent)) ∙ none)
  where
    row : (x : Option (ℕ × Work)) → seek v.rows t.client t.job 8 ≡ x → if_found x None (λ q y. cond y.committing (Some q) None) ≡ None → ⊥
    row None is g = seek_none v.rows t.client t.job 8 is p w (h.few p w o.open_row) (record { here = o.open_row; client = sym o.client; job = sym o.job })
    row (Some y) is g =
        let f = seek_some v.rows t.client t.job 8 y is in
        let e : y.0 ≡ p = h.alone y.0 p y.1 w f.here o.open_row (f.client ∙ o.client) (f.job ∙ o.job) in
        let a : v.rows p ≡ Some y.1 = rw e at f.here in
        let b = o.open_row in
        let c : y.1 ≡ w = cc in
        let d : y.1.committing ≡ true = ap (λ (z : Work). z.committing) c ∙ o.committing in
        none_some (Some y.0) y.0 (sym (cond-true y.1.committing (Some y.0) None d) ∙ g) refl

never_committed : (j : Summary) (k e : ℕ) → judge j (epoch_change k e) ≡ committed → ⊥
never_committed j k e h = let z : ◌≡◌ {A = ℕ} 0 1 = elim (sees j (epoch_change k e))
    [ front.is_accepted a b g ↦ cc | front.is_stale a b f g ↦ cc | front.is_committed x b f g ↦ cc | front.is_late x b f g ↦ cc | front.is_again x p b f g ↦ cc ] in omega arith

never_again : (j : Summary) (k e p : ℕ) → judge j (epoch_change k e) ≡ again p → ⊥
never_again j k e p h = let z : ◌≡◌ {A = ℕ} 0 1 = elim (sees j (epoch_change k e))
    [ front.is_accepted a b g ↦ cc | front.is_stale a b f g ↦ cc | front.is_committed x b f g ↦ cc | front.is_late x b f g ↦ cc | front.is_again x q b f g ↦ cc ] in omega arith

-- a delivered message is handled as the proofs see it
module _ (n : ℕ) (unit : ℕ → ℕ) (i : ℕ) (v : Site) (h : Local n unit i v) (j : Summary) where
  commit_delivers : (t : Tx) → judge j (transaction t) ≡ committed → (o : Option ℕ) → own_slot i v t ≡ o → Delivers i v j (transaction t) (commit_at v t o)
  commit_delivers t g (Some p) e =
      let o = own_some i v t p e in
      let k = slot_there unit v.db.cells (v.rows p) (v.db.slots p) o.0 o.1.open_row (h.link p) in
      seals_own t p o.0 k.slot refl g o.1 k.is (seals_is v p k.slot k.is)
  commit_delivers t g None e = go (ltb v.delivered v.db.mark) refl
    where
      go : (b : Bool) → ltb v.delivered v.db.mark ≡ b → Delivers i v j (transaction t) (cond b (past v) (takes v t.stmts))
      go true y = has_it t refl g (own_none n unit i v h t e) (ltb-true v.delivered v.db.mark y) refl
      go false y = takes_in t refl g (own_none n unit i v h t e) (ltb-false v.delivered v.db.mark y) (takes_is v t.stmts)

  again_delivers : (t : Tx) (q : ℕ) → judge j (transaction t) ≡ again q → (o : Option ℕ) → own_slot i v t ≡ o → Delivers i v j (transaction t) (again_at v o)
  again_delivers t q g (Some p) e = let o = own_some i v t p e in ends_own t p o.0 q refl g o.1 (ap past (ended_is v p))
  again_delivers t q g None e = passes t q refl g (own_none n unit i v h t e) refl

  handled_delivers : (m : Msg) (x : Judged) → judge j m ≡ x → Delivers i v j m (handled i x m v)
  handled_delivers m accepted g = rises g (risen_is v)
  handled_delivers m stale g = is_stale g refl
  handled_delivers m late g = is_late g refl
  handled_delivers (transaction t) committed g = commit_delivers t g (own_slot i v t) refl
  handled_delivers (epoch_change k e) committed g = absurd (never_committed j k e g)
  handled_delivers (transaction t) (again q) g = again_delivers t q g (own_slot i v t) refl
  handled_delivers (epoch_change k e) (again q) g = absurd (never_again j k e q g)

module _ (s : State) (h : Inv s) where
  local_at : (i : ℕ) → Local s.count (s.units i) i (s.servers i)
  local_at i = (h.good i).local

  same_open : (i p : ℕ) → is_some ((s.servers i).rows p) ≡ is_open (s.servers i).db p
  same_open i p = linked_open (s.units i) (s.servers i).db.cells ((s.servers i).rows p) ((s.servers i).db.slots p) ((local_at i).link p)

  slot_open : (i p : ℕ) (w : Work) → (s.servers i).rows p ≡ Some w → is_open (s.servers i).db p ≡ true
  slot_open i p w e = sym (same_open i p) ∙ ap is_some e

  -- begin
  begin_turned : (t : TransactionId) (r : Result (Unit {0}) Refusal) (s' : State) → Begin t.client t.job s t.server r s' → Turned s s' (act.Begin t) (done_of r)
  unfolding begin_why
  begin_turned t (Ok u) s' b =
      let i = t.server in
      let v = s.servers i in
      let table = begin_table s.count i v t.client t.job in
      let free = (and_then_none (first table) _ (why_none s i _ b.did.0)).0 in
      let q = fails table free in
      let f = b.free free in
      obeys (begins t b.slot (not-false v.running q.0) (eqb-true i (primary s.count v.epoch) (not-false (eqb i (primary s.count v.epoch)) q.1.1.0))
      (none_is v.bar q.1.1.1.0)
      (λ p w e ec ej. seek_none v.rows t.client t.job 8 (none_is (find v t.client t.job) q.1.1.1.1.0) p w ((local_at i).few p w e) (record { here = e; client = ec; job = ej }))
      f.1 f.0 (b.did.2 ∙ ap (change s i) (begun_is v b.slot t.client t.job)))
  begin_turned t (Err e) s' b =
      let i = t.server in
      let v = s.servers i in
      let table = begin_table s.count i v t.client t.job in
      refuses e refl
      (why_some s i _ e
      (λ there. and_then_whole (first table) _ (first_whole table (refl, (refl, (refl, (refl, (refl, (refl, tt))))))) (λ free.
      let f = b.free free in
      up_none _ (place_free s i _ there h.enough ∙ open_free v.db b.slot f.0 (sym (same_open i b.slot) ∙ ap is_some f.1))))
      b.did.0)
      b.did.1

  -- run
  -- an open slot is a low one
  slot_low : (i p : ℕ) (k : Slot) → (s.servers i).db.slots p ≡ Some k → p < 8
  slot_low i p k e =
      let w = some_is ((s.servers i).rows p) (same_open i p ∙ ap is_some e) in
      (local_at i).few p w.0 w.1

  run_whole : (t : TransactionId) (c : ℕ) (o : Operation) → Whole (run_why (s.units t.server) (s.servers t.server) t.client t.job c o)
  unfolding run_why
  run_whole t c o =
      let i = t.server in
      let v = s.servers i in
      let table = run_table v t.client t.job c o in
      and_then_whole (first table) _ (first_whole table (refl, (refl, (refl, (refl, (refl, (refl, tt))))))) (λ free.
      let q = fails table free in
      let a = made c o q.1.1.0 in
      let y = ready v t.client t.job q.0 q.1.1.1.0 q.1.1.1.1.0 in
      subst Whole (sym (at_made (checked c o) a.0 (find v t.client t.job) y.slot y.row None (λ st p w. up (run_refusal (s.units i) v.db p st)) a.1 y.is))
      (run_up (s.units i) v.db y.slot a.0 (slot_open i y.slot y.row y.fine.open_row)))

  run_obeys : (t : TransactionId) (c : ℕ) (o : Operation) (x : ℕ) (s' : State) (a : Statement) → checked c o ≡ Some a → (y : Ready (s.servers t.server) t.client t.job) (k : Slot) →
      (s.servers t.server).db.slots y.slot ≡ Some k → up (run_refusal (s.units t.server) (s.servers t.server).db y.slot a) ≡ None →
      x ≡ run_answer (s.servers t.server).db y.slot a → s' ≡ change s t.server (worked (s.units t.server) (s.servers t.server) y.slot y.row a) →
      Obeys s s' (act.Run t c o) (answer.Result x)
  run_obeys t c o x s' a is y k here none result e =
      let i = t.server in
      let v = s.servers i in
      let idle = not_busy (s.units i) v.db y.slot a (slot_open i y.slot y.row y.fine.open_row) none in
      rw (result ∙ answer_is v.db y.slot k a here)
      (runs_it t c o y.slot y.row k a is y.fine here
      (λ q l ne there. no_lock v.db y.slot (s.units i a.cell) a idle q l (slot_low i q l there) ne there)
      (e ∙ ap (change s i) (worked_is (s.units i) v y.slot y.row k a here)))

  run_turned : (t : TransactionId) (c : ℕ) (o : Operation) (r : Result ℕ Refusal) (s' : State) → Run t.client t.job c o s t.server r s' → Turned s s' (act.Run t c o) (result_of r)
  unfolding run_why run_result run_after
  run_turned t c o (Ok x) s' (why, is, e) =
      let i = t.server in
      let v = s.servers i in
      let table = run_table v t.client t.job c o in
      let both = and_then_none (first table) _ (why_none s i _ why) in
      let q = fails table both.0 in
      let a = made c o q.1.1.0 in
      obeys (by a.0 a.1 (ready v t.client t.job q.0 q.1.1.1.0 q.1.1.1.1.0) both.1)
    where
      by : (a : Statement) → checked c o ≡ Some a → (y : Ready (s.servers t.server) t.client t.job) →
          if_statement (checked c o) None (λ st. if_found (find (s.servers t.server) t.client t.job) None (λ p w. up (run_refusal (s.units t.server) (s.servers t.server).db p st))) ≡ None →
          Obeys s s' (act.Run t c o) (answer.Result x)
      by a made y none =
          let i = t.server in
          let v = s.servers i in
          let k = slot_there (s.units i) v.db.cells (v.rows y.slot) (v.db.slots y.slot) y.row y.fine.open_row ((local_at i).link y.slot) in
          let at_it : (X : Type 0) (z : X) (f : Statement → ℕ → Work → X) → if_statement (checked c o) z (λ b. if_found (find v t.client t.job) z (f b)) ≡ f a y.slot y.row =
          λ X z f. at_made (checked c o) a (find v t.client t.job) y.slot y.row z f made y.is in
          run_obeys t c o x s' a made y k.slot k.is
          (sym (at_it (Option ServerFault) None (λ st p w. up (run_refusal (s.units i) v.db p st))) ∙ none)
          (is ∙ at_it ℕ 0 (λ st p w. run_answer v.db p st))
          (e ∙ ap (change s i) (at_it Site v (λ st p w. worked (s.units i) v p w st)))
  run_turned t c o (Err e) s' (why, same) = refuses e refl (why_some s t.server _ e (λ there. run_whole t c o) why) same

  -- a message that is sent: it does not overflow the count
  sends : (m n : Msg) (f g : ℕ → Site) (s' : State) (x : Inserted m s.waiting s'.waiting) →
      s' ≡ with_messages (with_servers s f) s.log s'.waiting ((s.sent + 1) % 2 ^ 64) → m ≡ n → f ≡ g → length s.log + length s.waiting < s.capacity →
      s' ≡ with_messages (with_servers s g) s.log (x.front ++ n ∷ x.back) (s.sent + 1)
  sends m n f g s' x e em ef lt =
      let a = h.count in
      let b = h.small in
      let small : s.sent + 1 < 2 ^ 64 = omega arith in
      e ∙ ap (λ (z : ℕ → Site). with_messages (with_servers s z) s.log s'.waiting ((s.sent + 1) % 2 ^ 64)) ef
      ∙ ap (λ (z : List Msg). with_messages (with_servers s g) s.log z ((s.sent + 1) % 2 ^ 64)) (x.new ∙ ap (λ (y : Msg). x.front ++ y ∷ x.back) em)
      ∙ ap (with_messages (with_servers s g) s.log (x.front ++ n ∷ x.back)) (mod-eq_of_lt small)

  room : is_full s ≡ false → length s.log + length s.waiting < s.capacity
  room e = leb-false s.capacity (length s.log + length s.waiting) e

  -- commit, abort and suspect
  commit_turned : (t : TransactionId) (r : Result (Unit {0}) Refusal) (s' : State) → Commit t.client t.job s t.server r s' → Turned s s' (act.Commit t) (done_of r)
  unfolding message_to_commit commit_after
  commit_turned t (Ok u) s' (why, x, e) =
      let i = t.server in
      let v = s.servers i in
      let both = full_none s i _ why in
      let q = fails (open_table v t.client t.job) (why_none s i _ both.0) in
      let y = ready v t.client t.job q.0 q.1.1.0 q.1.1.1.0 in
      obeys (commits t y.slot y.row x.front x.back y.fine (room both.1) x.old
      (sends (message_to_commit i v t.client t.job) (message_of i v y.row) (upd s.servers i (commit_after v t.client t.job)) (upd s.servers i (sent_off v y.slot y.row)) s' x e
      (at_found (find v t.client t.job) y.slot y.row (epoch_change 0 0) (λ p w. message_of i v w) y.is)
      (ap (upd s.servers i) (at_found (find v t.client t.job) y.slot y.row v (λ p w. sent_off v p w) y.is))
      (room both.1)))
  commit_turned t (Err e) s' (why, same) =
      let i = t.server in
      let table = open_table (s.servers i) t.client t.job in
      refuses e refl (full_some s i _ e (why_some s i _ e (λ there. first_whole table (refl, (refl, (refl, (refl, tt)))))) why) same

  abort_turned : (t : TransactionId) (r : Result (Unit {0}) Refusal) (s' : State) → Abort t.client t.job s t.server r s' → Turned s s' (act.Abort t) (done_of r)
  unfolding abort_why abort_after
  abort_turned t (Ok u) s' (why, right, e) =
      let i = t.server in
      let v = s.servers i in
      let q = fails (open_table v t.client t.job) (and_then_none (first (open_table v t.client t.job)) _ (why_none s i _ why)).0 in
      let y = ready v t.client t.job q.0 q.1.1.0 q.1.1.1.0 in
      obeys (aborts t y.slot y.row y.fine
      (e ∙ ap (change s i) (at_found (find v t.client t.job) y.slot y.row v (λ p w. ended v p) y.is ∙ ended_is v y.slot)))
  abort_turned t (Err e) s' (why, same) =
      let i = t.server in
      let v = s.servers i in
      let table = open_table v t.client t.job in
      refuses e refl
      (why_some s i _ e
      (λ there. and_then_whole (first table) _ (first_whole table (refl, (refl, (refl, (refl, tt))))) (λ free.
      let q = fails table free in
      let y = ready v t.client t.job q.0 q.1.1.0 q.1.1.1.0 in
      up_found y))
      why)
      same
    where
      up_found : (y : Ready (s.servers t.server) t.client t.job) →
          Whole (if_found (find (s.servers t.server) t.client t.job) None (λ p w. up (undo_refusal (s.servers t.server).db p)))
      up_found y =
          subst Whole (sym (at_found (find (s.servers t.server) t.client t.job) y.slot y.row None (λ p w. up (undo_refusal (s.servers t.server).db p)) y.is))
          (up_none _ (undo_free (s.servers t.server).db y.slot (slot_open t.server y.slot y.row y.fine.open_row)))

  suspect_turned : (i : ℕ) (r : Result (Unit {0}) Refusal) (s' : State) → Suspect s i r s' → Turned s s' (act.Suspect i) (done_of r)
  suspect_turned i (Ok u) s' (why, x, e) =
      let free = (full_none s i _ why).1 in
      let m = epoch_change i (s.servers i).epoch in
      obeys (suspects i x.front x.back (room free) x.old (sends m m s.servers s.servers s' x e refl refl (room free)))
  suspect_turned i (Err e) s' (why, same) =
      refuses e refl (full_some s i _ e (why_some s i _ e (λ there. first_whole (running_table (s.servers i)) (refl, tt))) why) same

  -- order
  order_turned : (r : Result ℕ Refusal) (s' : State) → Order s r s' → Turned s s' act.Order (ordered_of r)
  order_turned (Ok p) s' (is, x, e) =
      rw is (obeys (orders x.message x.taken.front x.taken.back x.taken.new
      (e ∙ ap (λ (z : List Msg). with_messages s z s'.waiting s.sent) x.added
      ∙ ap (λ (z : List Msg). with_messages s (s.log ++ x.message ∷ []) z s.sent) x.taken.old)))
  order_turned (Err e) s' (none, is, same) = refuses e refl (λ i q. let z : ◌≡◌ {A = ℕ} 0 1 = cc in omega arith) same

  -- stop and start
  stop_turned : (i : ℕ) (r : Result (Unit {0}) Refusal) (s' : State) → Stop s i r s' → Turned s s' (act.Stop i) (done_of r)
  stop_turned i (Ok u) s' (why, right, e) = obeys (stops i (e ∙ ap (change s i) (stopped_is (s.servers i))))
  stop_turned i (Err e) s' (why, same) = refuses e refl (why_some s i _ e (λ there. first_whole (running_table (s.servers i)) (refl, tt)) why) same

  start_turned : (i : ℕ) (r : Result (Unit {0}) Refusal) (s' : State) → Start s i r s' → Turned s s' (act.Start i) (done_of r)
  start_turned i (Ok u) s' (why, right, e) = obeys (starts i (fails (start_table (s.servers i)) (why_none s i _ why)).0 e)
  start_turned i (Err e) s' (why, same) = refuses e refl (why_some s i _ e (λ there. first_whole (start_table (s.servers i)) (refl, tt)) why) same

  -- deliver
  module _ (i : ℕ) (there : no_server s i ≡ false) (running : (s.servers i).running ≡ true) (m : Msg) (rest : List Msg)
      (here : drop (s.servers i).delivered s.log ≡ m ∷ rest) where
    not_last : (s.servers i).delivered ≡ 18446744073709551615 → ⊥
    not_last e =
        let a = length_here s.log (s.servers i).delivered m rest here in
        let b = h.room in
        let c = h.small in
        omega arith

    commit_whole : (t : Tx) → m ≡ transaction t → judge (at s.log (s.servers i).delivered) (transaction t) ≡ committed → (o : Option ℕ) → own_slot i (s.servers i) t ≡ o →
        Whole (commit_why s.databases (place i) (s.servers i) o)
    commit_whole t em g (Some p) e =
        let o = own_some i (s.servers i) t p e in
        up_none _ (seal_free (s.servers i).db p (s.servers i).delivered (slot_open i p o.0 o.1.open_row) not_last)
    commit_whole t em g None e = go (ltb (s.servers i).delivered (s.servers i).db.mark)
      where
        empty : (p : ℕ) (o : Option Work) → (s.servers i).rows p ≡ o → is_some o ≡ false
        empty p None q = refl
        empty p (Some w) q =
            let known : Known s.count _ (transaction t) = rw em at (known_at s h (s.servers i).delivered m rest here) in
            absurd (quiet s.count (s.units i) s.log s.waiting i (s.servers i) (h.good i) running t rest (rw em at here) g known.1
            (own_none s.count (s.units i) i (s.servers i) (local_at i) t e) p w q)

        closed : any_below 8 (is_open (s.servers i).db) ≡ false
        closed = none_below 8 (is_open (s.servers i).db) (λ p. sym (same_open i p) ∙ empty p ((s.servers i).rows p) refl)

        go : (b : Bool) → Whole (cond b None (up (at_place s.databases (place i) (intake_refusal (s.servers i).db (s.servers i).delivered))))
        go true = tt
        go false =
            up_none _ (place_free s i _ there h.enough
            ∙ intake_free (s.servers i).db 0 (s.servers i).delivered (any_below 8 (is_open (s.servers i).db)) refl closed not_last)

    again_whole : (t : Tx) (o : Option ℕ) → own_slot i (s.servers i) t ≡ o → Whole (again_why (s.servers i) o)
    again_whole t (Some p) e =
        let o = own_some i (s.servers i) t p e in
        up_none _ (undo_free (s.servers i).db p (slot_open i p o.0 o.1.open_row))
    again_whole t None e = tt

    handle_whole : (n : Msg) → m ≡ n → (x : Judged) → judge (at s.log (s.servers i).delivered) n ≡ x → Whole (handle_why s.databases (place i) i x n (s.servers i))
    handle_whole n e accepted g = tt
    handle_whole n e stale g = tt
    handle_whole n e late g = tt
    handle_whole (transaction t) e committed g = commit_whole t e g (own_slot i (s.servers i) t) refl
    handle_whole (epoch_change k f) e committed g = tt
    handle_whole (transaction t) e (again q) g = again_whole t (own_slot i (s.servers i) t) refl
    handle_whole (epoch_change k f) e (again q) g = tt

  deliver_whole : (i : ℕ) → no_server s i ≡ false → Whole (deliver_why s.log s.databases (place i) i (s.servers i))
  unfolding deliver_why verdict
  deliver_whole i there =
      let v = s.servers i in
      let table = deliver_table s.log v in
      and_then_whole (first table) _ (first_whole table (refl, (refl, tt))) (λ free.
      let q = fails table free in
      let m = some_is (nth s.log v.delivered) (not-false (is_some (nth s.log v.delivered)) q.1.0) in
      by (not-false v.running q.0) m.0 m.1)
    where
      by : (s.servers i).running ≡ true → (m : Msg) → nth s.log (s.servers i).delivered ≡ Some m →
          Whole (if_next (nth s.log (s.servers i).delivered) None (λ n. handle_why s.databases (place i) i (judge (at s.log (s.servers i).delivered) n) n (s.servers i)))
      by running m is =
          let d = nth_drop s.log (s.servers i).delivered m is in
          subst (λ (z : Option Msg). Whole (if_next z None (λ n. handle_why s.databases (place i) i (judge (at s.log (s.servers i).delivered) n) n (s.servers i)))) (sym is)
          (handle_whole i there running m d.0 d.1 m refl (judge (at s.log (s.servers i).delivered) m) refl)

  deliver_obeys : (i : ℕ) (x : ℕ × Judgement) (s' : State) → (s.servers i).running ≡ true → (m : Msg) → nth s.log (s.servers i).delivered ≡ Some m →
      Tells s.log (s.servers i) x → s' ≡ change s i (deliver_after s.log i (s.servers i)) → Obeys s s' (act.Deliver i) (answer.Delivered x.0 x.1)
  unfolding deliver_after verdict Tells
  deliver_obeys i x s' running m is right e =
      let v = s.servers i in
      let j = at s.log v.delivered in
      let d = nth_drop s.log v.delivered m is in
      let told : Some (judge j m) ≡ Some (judged_of x.1) = sym (ap (λ (z : Option Msg). if_next z None (λ n. Some (judge j n))) is) ∙ right.1 in
      let judged : judge j m ≡ judged_of x.1 = cc in
      rw right.0
      (delivers i m d.0 (handled i (judge j m) m v) x.1 running d.1 judged (handled_delivers s.count (s.units i) i v (local_at i) j m (judge j m) refl)
      (e ∙ ap (λ (z : Option Msg). change s i (if_next z v (λ n. handled i (judge j n) n v))) is))

  deliver_turned : (i : ℕ) (r : Result (ℕ × Judgement) Refusal) (s' : State) → Deliver s i r s' → Turned s s' (act.Deliver i) (delivered_of r)
  unfolding deliver_why
  deliver_turned i (Ok x) s' (why, right, e) =
      let v = s.servers i in
      let q = fails (deliver_table s.log v) (and_then_none (first (deliver_table s.log v)) _ (why_none s i _ why)).0 in
      let m = some_is (nth s.log v.delivered) (not-false (is_some (nth s.log v.delivered)) q.1.0) in
      obeys (deliver_obeys i x s' (not-false v.running q.0) m.0 m.1 right e)
  deliver_turned i (Err e) s' (why, same) = refuses e refl (why_some s i _ e (deliver_whole i) why) same

  pub turned : (a : Act) (r : Answer) (s' : State) → Step s a r s' → Turned s s' a r
  turned (act.Begin t) r s' (x, e, b) = rw e (begin_turned t x s' b)
  turned (act.Run t c o) r s' (x, e, b) = rw e (run_turned t c o x s' b)
  turned (act.Commit t) r s' (x, e, b) = rw e (commit_turned t x s' b)
  turned (act.Abort t) r s' (x, e, b) = rw e (abort_turned t x s' b)
  turned (act.Suspect i) r s' (x, e, b) = rw e (suspect_turned i x s' b)
  turned act.Order r s' (x, e, b) = rw e (order_turned x s' b)
  turned (act.Deliver i) r s' (x, e, b) = rw e (deliver_turned i x s' b)
  turned (act.Stop i) r s' (x, e, b) = rw e (stop_turned i x s' b)
  turned (act.Start i) r s' (x, e, b) = rw e (start_turned i x s' b)
