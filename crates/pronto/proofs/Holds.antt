-- The law: every moment of a list of acts keeps the invariant and what the history tells, and these make it lawful.
use Rattle.std.proofs.Common.{◌≡◌, ℕ, zero, suc, ◌+◌, ◌≤◌, max, List, [], ◌∷◌, ◌++◌, take, drop, None, sym, refl, ap, ◌∙◌, arith}
use mathlib.Core.List.Perm
use mathlib.Core.List.{Perm}
use native.Mathlib.Decide.{dec_le}
use Rattle.std.specs.List.{AllByRecursion as All}
use Rattle.std.proofs.lemmas.List.{append-nil, append_assoc}
use Rattle.std.proofs.ByRecursion.{All-weaker, All-append}
use Rattle.replica.specs.Meanings.{Meaning}
use Rattle.replica.specs.Calls.{cleared}
use Rattle.message.specs.Messages.{Tx, Msg, transaction}
use Rattle.journal.specs.Runs.{answers}
use Rattle.journal.specs.Judging.{committed, Summary, next, start, from, at}
use Rattle.journal.specs.Positions.{Stands}
use Rattle.journal.proofs.Summaries.{at_start}
use Rattle.journal.proofs.Earlier.{one_run}
use Rattle.pronto.specs.Servers.{Site, new_site}
use Rattle.pronto.specs.States.{State, new_state}
use Rattle.pronto.specs.Steps.{Step, LeadsTo}
use Rattle.pronto.specs.Histories.{History, after_act, standing, tells, told, commit_of, all_sent, is_commit, is_suspect, how_many}
use Rattle.pronto.specs.Law.{standing_of, Lawful, Law}
use Rattle.pronto.specs.declared.faults.ServerFault.TheVariants as fault
use Rattle.pronto.specs.declared.refusals.Refusal.{Refusal}
use Rattle.pronto.specs.declared.refusals.Refusal.TheVariants as refusal
use Rattle.pronto.specs.declared.acts.Act.{Act}
use Rattle.pronto.specs.declared.acts.Answer.{Answer}
use Rattle.pronto.specs.declared.acts.Answer.TheVariants as answer
use Rattle.pronto.specs.declared.acts.Entry.{Entry}
use Rattle.pronto.proofs.Everywhere.{all_right}
use Rattle.pronto.proofs.Views.{Obeys, begins, runs_it, commits, aborts, suspects, orders, delivers, stops, starts}
use Rattle.pronto.proofs.Invariant.{Good, RightAt, Right, Inv}
use Rattle.pronto.proofs.Rows.{none_some, linked_open}
use Rattle.pronto.proofs.Kept.{obeys_keeps}
use Rattle.pronto.proofs.Told.{entry, one, fold_push, all_sent_push, how_many_push, one_refused, after_refused, tells_refused, sent_refused, standing_step, AllHeard, heard_step, sent_step, count_step, ToldRight, still_right, tells_right, refused_right}
use Rattle.pronto.proofs.Turned.{obeys, refuses, turned}

new_good : (n : ℕ) (unit : ℕ → ℕ) (i : ℕ) → Good n unit [] [] i new_site
unfolding cleared
new_good n unit i =
    record {
      placed = record {
        d≤ = omega arith;
        m≤ = omega arith;
        ep = sym (ap (λ (j : Summary). j.epoch) (at_start []));
        cm = λ c. sym (ap (λ (j : Summary). j.cells c) (at_start []));
        cd = λ q c. sym (ap (λ (j : Summary). j.cells c) (at_start []));
      };
      local = record {
        leads = λ s r e. absurd (none_some None r refl e);
        link = λ s. tt;
        alone = λ s s' r r' e. absurd (none_some None r refl e);
        few = λ s r e. absurd (none_some None r refl e);
        free = λ s s' k k' ne e. absurd (none_some None k refl e);
      };
      fence = λ u. (omega arith, tt);
      owned = λ u b. tt;
      unlike = λ u b. tt;
    }

-- confirmed results
right_at : (j : Summary) (l : List Msg) (p : ℕ) (m : Msg) (rest : List Msg) → Right j l → drop p l ≡ m ∷ rest → RightAt (from j (take p l)) m
right_at j [] zero m rest h e = let z : ◌≡◌ {A = ℕ} 0 1 = cc in absurd (omega arith)
right_at j [] (suc p) m rest h e = let z : ◌≡◌ {A = ℕ} 0 1 = cc in absurd (omega arith)
right_at j (x ∷ l) zero m rest h e = let y : x ≡ m = cc in rw y at h.0
right_at j (x ∷ l) (suc p) m rest h e = right_at (next j x) l p m rest h.1 e

confirms : (l : List Msg) (p : ℕ) (t : Tx) → Right start l → Stands l p (transaction t) committed → t.results ≡ answers t.stmts (at l p).cells
unfolding at
confirms l p t h z = right_at start l p (transaction t) z.rest h z.here z.is

cells_max : (n : ℕ) (unit : ℕ → ℕ) (L W : List Msg) (i : ℕ) (v : Site) → Good n unit L W i v → (c : ℕ) → v.db.cells c ≡ (at L (max v.db.mark v.delivered)).cells c
cells_max n unit L W i v h c =
    elim (dec_le v.db.mark v.delivered) [
      | yes q ↦ let e : max v.db.mark v.delivered ≡ v.delivered = omega arith in rw e (h.placed.cd q c)
      | no nq ↦ let e : max v.db.mark v.delivered ≡ v.db.mark = omega arith in rw e (h.placed.cm c)
    ]

-- the log only grows
same_log : (s s' : State) (L : List Msg) → s'.log ≡ L → L ≡ s.log → (l : List Msg) × (s'.log ≡ s.log ++ l)
same_log s s' L e f = ([], e ∙ f ∙ sym (append-nil s.log))

log_step : (s s' : State) (a : Act) (r : Answer) → Obeys s s' a r → (l : List Msg) × (s'.log ≡ s.log ++ l)
log_step s s' a r (begins t p up lead bar un em lt e) = same_log s s' _ (ap (λ (x : State). x.log) e) refl
log_step s s' a r (runs_it t c o p w k st made x ek nh e) = same_log s s' _ (ap (λ (x : State). x.log) e) refl
log_step s s' a r (commits t p w V W x lt ew e) = same_log s s' _ (ap (λ (x : State). x.log) e) refl
log_step s s' a r (aborts t p w x e) = same_log s s' _ (ap (λ (x : State). x.log) e) refl
log_step s s' a r (suspects i V W lt ew e) = same_log s s' _ (ap (λ (x : State). x.log) e) refl
log_step s s' a r (orders m V W ew e) = (m ∷ [], ap (λ (x : State). x.log) e)
log_step s s' a r (delivers i m rest w j up here is d e) = same_log s s' _ (ap (λ (x : State). x.log) e) refl
log_step s s' a r (stops i e) = same_log s s' _ (ap (λ (x : State). x.log) e) refl
log_step s s' a r (starts i down e) = same_log s s' _ (ap (λ (x : State). x.log) e) refl

-- no tear was told
abbrev Untorn : Entry → Type 0
Untorn x = (i : ℕ) → x.answer ≡ answer.Refused (refusal.Server i fault.Torn) → ⊥

obeyed_untorn : (s s' : State) (a : Act) (r : Answer) → Obeys s s' a r → Untorn (entry a r)
obeyed_untorn s s' a r (begins t p up lead bar un em lt e) i q = let z : ◌≡◌ {A = ℕ} 0 1 = cc in omega arith
obeyed_untorn s s' a r (runs_it t c o p w k st made x ek nh e) i q = let z : ◌≡◌ {A = ℕ} 0 1 = cc in omega arith
obeyed_untorn s s' a r (commits t p w V W x lt ew e) i q = let z : ◌≡◌ {A = ℕ} 0 1 = cc in omega arith
obeyed_untorn s s' a r (aborts t p w x e) i q = let z : ◌≡◌ {A = ℕ} 0 1 = cc in omega arith
obeyed_untorn s s' a r (suspects j V W lt ew e) i q = let z : ◌≡◌ {A = ℕ} 0 1 = cc in omega arith
obeyed_untorn s s' a r (orders m V W ew e) i q = let z : ◌≡◌ {A = ℕ} 0 1 = cc in omega arith
obeyed_untorn s s' a r (delivers j m rest w k up here is d e) i q = let z : ◌≡◌ {A = ℕ} 0 1 = cc in omega arith
obeyed_untorn s s' a r (stops j e) i q = let z : ◌≡◌ {A = ℕ} 0 1 = cc in omega arith
obeyed_untorn s s' a r (starts j down e) i q = let z : ◌≡◌ {A = ℕ} 0 1 = cc in omega arith

record Held (h : History) (s : State) : Type 0 where
  inv : Inv s
  stood : (i : ℕ) → standing_of (s.servers i) ≡ standing i h
  heard : (i : ℕ) → AllHeard (λ j c k. told j c k h) i (s.servers i)
  bag : Perm (s.log ++ s.waiting) (all_sent h)
  sent : how_many is_commit h + how_many is_suspect h ≡ s.sent
  right : All (ToldRight s.log) h
  untorn : All Untorn h

new_held : (capacity n databases : ℕ) (units : ℕ → ℕ → ℕ) (spare : ℕ → Meaning) → n ≤ databases → capacity ≤ 4096 → Held [] (new_state capacity n databases units spare)
unfolding cleared
new_held capacity n databases units spare enough small =
    record {
      inv = record {
        good = λ i. new_good n (units i) i;
        known = tt;
        right = tt;
        sound = tt;
        clears = tt;
        count = refl;
        room = omega arith;
        small = small;
        enough = enough;
      };
      stood = λ i. refl;
      heard = λ i p w q. absurd (none_some None w refl q);
      bag = Perm.nil;
      sent = refl;
      right = tt;
      untorn = tt;
    }

obeyed_held : (h : History) (s s' : State) (a : Act) (r : Answer) → Held h s → Obeys s s' a r → Held (h ++ entry a r ∷ []) s'
obeyed_held h s s' a r g o =
    let l = log_step s s' a r o in
    record {
      inv = obeys_keeps s g.inv s' a r o;
      stood = λ i. standing_step s s' a r g.inv o i ∙ ap (after_act i a r) (g.stood i) ∙ sym (fold_push (after_act i) _ h (entry a r));
      heard = λ i p w q. rw (fold_push (tells i w.client w.job) [] h (entry a r)) (heard_step (λ j c k. told j c k h) s s' a r g.inv g.heard o i p w q);
      bag = rw (all_sent_push h a r) (sent_step h s s' a r g.stood g.heard g.bag o);
      sent =
          let e = g.sent in
          let f = count_step s s' a r o in
          let x = how_many_push is_commit h a r in
          let y = how_many_push is_suspect h a r in
          omega arith;
      right = All-append (ToldRight s'.log) h (entry a r ∷ [])
          (All-weaker (ToldRight s.log) (ToldRight s'.log) (still_right s.log s'.log l.0 l.1) h g.right)
          (still_right s.log s'.log l.0 l.1 (entry a r) (tells_right s s' a r o), tt);
      untorn = All-append Untorn h (entry a r ∷ []) g.untorn (obeyed_untorn s s' a r o, tt);
    }

refused_held : (h : History) (s s' : State) (a : Act) (r : Answer) (e : Refusal) → Held h s → r ≡ answer.Refused e → ((i : ℕ) → e ≡ refusal.Server i fault.Torn → ⊥) → s' ≡ s →
    Held (h ++ entry a r ∷ []) s'
refused_held h s s' a r e g is whole same =
    record {
      inv = rw same g.inv;
      stood = λ i. rw (same, fold_push (after_act i) _ h (entry a r), is, after_refused i a e (standing i h)) (g.stood i);
      heard = λ i p w q. rw (fold_push (tells i w.client w.job) [] h (entry a r), is, tells_refused i w.client w.job a e (told i w.client w.job h)) (g.heard i p w (rw same at q));
      bag = rw (same, all_sent_push h a r, is, sent_refused a e h, append-nil (all_sent h)) g.bag;
      sent =
          let z = g.sent in
          let f = ap (λ (y : State). y.sent) same in
          let x = how_many_push is_commit h a r ∙ ap (λ (y : Answer). how_many is_commit h + one is_commit a y) is in
          let y = how_many_push is_suspect h a r ∙ ap (λ (y : Answer). how_many is_suspect h + one is_suspect a y) is in
          let u = one_refused is_commit a e in
          let v = one_refused is_suspect a e in
          omega arith;
      right = rw same (All-append (ToldRight s.log) h (entry a r ∷ []) g.right (refused_right s.log a r e is, tt));
      untorn = All-append Untorn h (entry a r ∷ []) g.untorn ((λ i q. whole i (cc)), tt);
    }

step_held : (h : History) (s s' : State) (a : Act) (r : Answer) → Held h s → Step s a r s' → Held (h ++ entry a r ∷ []) s'
step_held h s s' a r g x =
    elim (turned s g.inv a r s' x) [
      | obeys o ↦ obeyed_held h s s' a r g o
      | refuses e is whole same ↦ refused_held h s s' a r e g is whole same
    ]

held_on : (h h' : History) (s s' : State) → Held h s → LeadsTo s h' s' → Held (h ++ h') s'
held_on h [] s s' g e = rw (e, append-nil h) g
held_on h (x ∷ h') s s' g l =
    rw (← append_assoc h (x ∷ []) h') (held_on (h ++ x ∷ []) h' l.0 s' (step_held h s l.0 x.act x.answer g l.1) l.2)

grows : (h h' : History) (s s' : State) → Held h s → LeadsTo s h' s' → (l : List Msg) × (s'.log ≡ s.log ++ l)
grows h [] s s' g e = ([], ap (λ (x : State). x.log) e ∙ sym (append-nil s.log))
grows h (x ∷ h') s s' g l =
    let m = l.0 in
    let r = grows (h ++ x ∷ []) h' m s' (step_held h s m x.act x.answer g l.1) l.2 in
    elim (turned s g.inv x.act x.answer m l.1) [
      | obeys o ↦
          let q = log_step s m x.act x.answer o in
          (q.0 ++ r.0, r.1 ∙ ap (λ (z : List Msg). z ++ r.0) q.1 ∙ append_assoc s.log q.0 r.0)
      | refuses e is whole same ↦ (r.0, r.1 ∙ ap (λ (z : State). z.log ++ r.0) same)
    ]

held_lawful : (h : History) (s : State) → Held h s → Lawful h s
held_lawful h s g =
    record {
      cells = λ i c.
          rw (← g.stood i, ← one_run s.log (max (s.servers i).db.mark (s.servers i).delivered))
          (cells_max s.count (s.units i) s.log s.waiting i (s.servers i) (g.inv.good i) c);
      confirmed = λ earlier later t p e z.
          rw (← one_run s.log p) (confirms s.log p (commit_of t.server t.client t.job earlier) g.inv.right z);
      messages = g.bag;
      counted = (g.sent, g.inv.count);
      judgements = λ earlier later i p j e. (all_right (ToldRight s.log) earlier (entry _ _ ∷ later) (rw e at g.right)).0 i p j refl refl;
      standings = g.stood;
      epochs = λ i. (g.inv.good i).placed.ep;
      rows = λ i p. linked_open (s.units i) (s.servers i).db.cells ((s.servers i).rows p) ((s.servers i).db.slots p) ((g.inv.good i).local.link p);
      never_torn = λ earlier later a i e. (all_right Untorn earlier (entry a _ ∷ later) (rw e at g.untorn)).0 i refl;
    }

pub law : Law
law capacity n databases units spare enough small h h' s s' l l' =
    let g = held_on [] h (new_state capacity n databases units spare) s (new_held capacity n databases units spare enough small) l in
    record {
      first = held_lawful h s g;
      second = held_lawful (h ++ h') s' (held_on h h' s s' g l');
      begins = grows h h' s s' g l';
    }
