-- A delivered message keeps the invariant: an accepted epoch closes every row, an own transaction is sealed or undone, and another's
-- is taken in where no row is open.
use Rattle.std.proofs.Common.{◌≡◌, ℕ, ◌+◌, ◌<◌, ◌≤◌, Bool, true, false, leb, ◌≢◌, List, [], ◌∷◌, ◌++◌, drop, Some, None, Option, sym, refl, ap, ◌∙◌, inl, inr, add-one, arith}
use native.Mathlib.Decide.{dec_le}
use Rattle.std.specs.List.{AllByRecursion as All}
use Rattle.std.proofs.ByRecursion.{All-weaker, All-append, All-drop}
use Rattle.std.proofs.lemmas.Bool.{leb-true, both_ways}
use Rattle.statement.specs.declared.checked.Statement.{Statement}
use Rattle.replica.specs.Meanings.{Slot, upd, or_else, all_stepped}
use Rattle.replica.proofs.Updates.{upd_other, upd_all₂}
use Rattle.message.specs.Messages.{Tx, Msg, epoch_change, transaction}
use Rattle.journal.specs.Judging.{accepted, stale, committed, late, again, Summary, judge, next, start, from, at, primary}
use Rattle.journal.proofs.Fronts.{at_here, drop_here, length_here, at_epoch, sees}
use Rattle.journal.proofs.Fronts as front
use Rattle.pronto.specs.Servers.{Work, Site, lifted, past}
use Rattle.pronto.proofs.Clear.{Cells, writes, Agree, Clear, Unwritten, clear_agree, runs_agree, runs_same, runs_outside, answers_agree}
use Rattle.pronto.proofs.Everywhere.{Pairs, all_any, all_left, all_right}
use Rattle.pronto.proofs.Views.{work, rising, closing, sealing, taking, Own, Delivers, rises, is_stale, is_late, seals_own, takes_in, has_it, ends_own, passes}
use Rattle.pronto.proofs.Invariant.{Old, Owned, Mine, Unlike, OwnFits, Locked, Fits, Linked, Free, Placed, Leads, Local, Fence, Good, Known}
use Rattle.pronto.proofs.Rows.{none_some, slots_clear, closing_local, fine_at}
use Rattle.pronto.proofs.Running.{own_value}

-- what a judgement leaves of the epoch and the cells
next_stale : (j : Summary) (m : Msg) → judge j m ≡ stale → ((next j m).epoch ≡ j.epoch) × ((next j m).cells ≡ j.cells)
next_stale j m e = rw e (refl, refl)

next_late : (j : Summary) (m : Msg) → judge j m ≡ late → ((next j m).epoch ≡ j.epoch) × ((next j m).cells ≡ j.cells)
next_late j m e = rw e (refl, refl)

next_again : (j : Summary) (m : Msg) (p : ℕ) → judge j m ≡ again p → ((next j m).epoch ≡ j.epoch) × ((next j m).cells ≡ j.cells)
next_again j m p e = rw e (refl, refl)

next_accepted : (j : Summary) (m : Msg) → judge j m ≡ accepted → ((next j m).epoch ≡ j.epoch + 1) × ((next j m).cells ≡ j.cells)
next_accepted j m e = rw e (refl, refl)

next_committed : (j : Summary) (t : Tx) → judge j (transaction t) ≡ committed → ((next j (transaction t)).epoch ≡ j.epoch) × ((next j (transaction t)).cells ≡ all_stepped j.cells t.stmts)
next_committed j t e = rw e (refl, refl)

-- a transaction that is committed or again carries the epoch in force
committed_epoch : (j : Summary) (t : Tx) → judge j (transaction t) ≡ committed → t.epoch ≡ j.epoch
committed_epoch j t c =
    elim (sees j (transaction t)) [
      | front.is_accepted i e g ↦ cc
      | front.is_stale i e f g ↦ cc
      | front.is_committed x e f g ↦ cc
      | front.is_late x e f g ↦ cc
      | front.is_again x p e f g ↦ cc
    ]

fence_past : (L W : List Msg) (i q d e : ℕ) (b : Option ℕ) → Fence L W i q d e b → Fence L W i q (d + 1) e b
fence_past L W i q d e None h = let a = h.0 in (omega arith, h.1)
fence_past L W i q d e (Some b) h = (h.0, elim h.1 [ inl x ↦ inl x | inr x ↦ inr (omega arith) ], h.2)

-- a mark set to the new count
fence_mark : (L W : List Msg) (i q d e : ℕ) (b : Option ℕ) → Fence L W i q d e b → Fence L W i (d + 1) (d + 1) e b
fence_mark L W i q d e None h = (omega arith, h.1)
fence_mark L W i q d e (Some b) h = (h.0, inr (omega arith), h.2)

old_up : (i e e' : ℕ) → e ≤ e' → (m : Msg) → Old i e m → Old i e' m
old_up i e e' h (epoch_change k f) g = tt
old_up i e e' h (transaction t) g = λ p. let a = g p in omega arith

old_never : (i e : ℕ) (rows : ℕ → Option Work) (m : Msg) → Old i e m → Owned i (e + 1) rows m
old_never i e rows (epoch_change k f) g = tt
old_never i e rows (transaction t) g = λ p q. absurd (let a = g p in omega arith)

old_unlike : (i e : ℕ) (x y : Msg) → Old i e x → Unlike i (e + 1) x y
old_unlike i e (epoch_change k f) y g = tt
old_unlike i e (transaction a) (epoch_change k f) g = tt
old_unlike i e (transaction a) (transaction b) g = λ p q r s. absurd (let z = g p in omega arith)

olds_unlike : (i e : ℕ) (l : List Msg) → All (Old i e) l → Pairs (Unlike i (e + 1)) l
olds_unlike i e [] h = tt
olds_unlike i e (x ∷ l) h = (all_any (Unlike i (e + 1) x) (λ y. old_unlike i e x y h.0) l, olds_unlike i e l h.1)

lift_none : (d b : ℕ) → lifted d (Some b) ≡ None → b ≤ d
lift_none d b h = go (leb b d) refl
  where
    go : (x : Bool) → leb b d ≡ x → b ≤ d
    go true e = leb-true b d e
    go false e = absurd (none_some (lifted d (Some b)) b h (rw e))

module _ (n : ℕ) (unit : ℕ → ℕ) (L W : List Msg) (i : ℕ) (v : Site) (h : Good n unit L W i v)
    (up : v.running ≡ true) (m : Msg) (rest : List Msg) (here : drop v.delivered L ≡ m ∷ rest) where
  dd : drop (v.delivered + 1) L ≡ rest
  dd = rw (add-one v.delivered) (drop_here L v.delivered m rest here)

  owned_here : v.bar ≡ None → All (Owned i v.epoch v.rows) (m ∷ (rest ++ W))
  owned_here b = rw here at (h.owned up b)

  unlike_here : v.bar ≡ None → Pairs (Unlike i v.epoch) (m ∷ (rest ++ W))
  unlike_here b = rw here at (h.unlike up b)

  -- the place after a message that changes no cells, or that the mark is past
  cells_past : (v.db.mark ≤ v.delivered → (c : ℕ) → (next (at L v.delivered) m).cells c ≡ (at L v.delivered).cells c) →
      v.db.mark ≤ v.delivered + 1 → (c : ℕ) → v.db.cells c ≡ (at L (v.delivered + 1)).cells c
  cells_past same q c =
      elim (dec_le v.db.mark v.delivered) [
        | yes p ↦ h.placed.cd p c ∙ sym (same p c) ∙ sym (ap (λ (j : Summary). j.cells c) (at_here L v.delivered m rest here))
        | no np ↦ let e : v.db.mark ≡ v.delivered + 1 = omega arith in rw e at (h.placed.cm c)
      ]

  placed_past : (next (at L v.delivered) m).epoch ≡ (at L v.delivered).epoch →
      (v.db.mark ≤ v.delivered → (c : ℕ) → (next (at L v.delivered) m).cells c ≡ (at L v.delivered).cells c) → Placed L (past v)
  placed_past ee same =
      let lt = length_here L v.delivered m rest here in
      record {
        d≤ = omega arith;
        m≤ = h.placed.m≤;
        ep = h.placed.ep ∙ sym ee ∙ sym (ap (λ (j : Summary). j.epoch) (at_here L v.delivered m rest here));
        cm = h.placed.cm;
        cd = cells_past same;
      }

  local_past : Local n unit i (past v)
  local_past =
      record {
        leads = λ s r e. record { up = (h.local.leads s r e).up; bar = (h.local.leads s r e).bar; lead = (h.local.leads s r e).lead };
        link = h.local.link;
        alone = h.local.alone;
        few = h.local.few;
        free = h.local.free;
      }

  good_past : (next (at L v.delivered) m).epoch ≡ (at L v.delivered).epoch →
      (v.db.mark ≤ v.delivered → (c : ℕ) → (next (at L v.delivered) m).cells c ≡ (at L v.delivered).cells c) → Good n unit L W i (past v)
  good_past ee same =
      record {
        placed = placed_past ee same;
        local = local_past;
        fence = λ u. fence_past L W i v.db.mark v.delivered v.epoch v.bar (h.fence u);
        owned = λ u b. rw dd (owned_here b).1;
        unlike = λ u b. rw dd (unlike_here b).1;
      }

  -- an accepted epoch message
  old_here : (b : Option ℕ) → lifted v.delivered b ≡ None → Fence L W i v.db.mark v.delivered v.epoch b → All (Old i v.epoch) (L ++ W)
  old_here None e g = g.1
  old_here (Some b) e g =
      let q = lift_none v.delivered b e in
      let a = at_epoch L b v.delivered q in
      let c = h.placed.ep in
      All-weaker (Old i (at L b).epoch) (Old i v.epoch) (old_up i (at L b).epoch v.epoch (omega arith)) (L ++ W) g.2

  old_rest : (b : Option ℕ) → lifted v.delivered b ≡ None → Fence L W i v.db.mark v.delivered v.epoch b → All (Old i v.epoch) (drop (v.delivered + 1) L ++ W)
  old_rest b e g =
      let o = old_here b e g in
      All-append (Old i v.epoch) (drop (v.delivered + 1) L) W (All-drop (Old i v.epoch) (v.delivered + 1) L (all_left (Old i v.epoch) L W o)) (all_right (Old i v.epoch) L W o)

  fence_risen : (b : Option ℕ) → Fence L W i v.db.mark v.delivered v.epoch b →
      Fence L W i v.db.mark (v.delivered + 1) (v.epoch + 1) (lifted v.delivered b)
  fence_risen None g = let a = g.0 in (omega arith, All-weaker (Old i v.epoch) (Old i (v.epoch + 1)) (old_up i v.epoch (v.epoch + 1) (omega arith)) (L ++ W) g.1)
  fence_risen (Some b) g = go (leb b v.delivered) refl
    where
      go : (x : Bool) → leb b v.delivered ≡ x → Fence L W i v.db.mark (v.delivered + 1) (v.epoch + 1) (lifted v.delivered (Some b))
      go true e =
          let z : lifted v.delivered (Some b) ≡ None = rw e in
          let q = lift_none v.delivered b z in
          let o = old_here (Some b) z g in
          let le : v.db.mark ≤ v.delivered + 1 = elim g.1 [ inl y ↦ omega arith | inr y ↦ omega arith ] in
          rw e (le, All-weaker (Old i v.epoch) (Old i (v.epoch + 1)) (old_up i v.epoch (v.epoch + 1) (omega arith)) (L ++ W) o)
      go false e = rw e (g.0, elim g.1 [ inl y ↦ inl y | inr y ↦ inr (omega arith) ], g.2)

  good_risen : judge (at L v.delivered) m ≡ accepted → Good n unit L W i (rising v)
  good_risen a =
      let j = at L v.delivered in
      let na = next_accepted j m a in
      let lt = length_here L v.delivered m rest here in
      let ah = at_here L v.delivered m rest here in
      record {
        placed =
            record {
              d≤ = omega arith;
              m≤ = h.placed.m≤;
              ep = ap (λ x. x + 1) h.placed.ep ∙ sym na.0 ∙ sym (ap (λ (k : Summary). k.epoch) ah);
              cm = h.placed.cm;
              cd = cells_past (λ q c. ap (λ (S : Cells). S c) na.1);
            };
        local =
            record {
              leads = λ s r e. absurd (none_some None r refl e);
              link = λ s. tt;
              alone = λ s s' r r' e. absurd (none_some None r refl e);
              few = λ s r e. absurd (none_some None r refl e);
              free = λ s s' k k' ne e. absurd (none_some None k refl e);
            };
        fence = λ u. fence_risen v.bar (h.fence u);
        owned = λ u b. All-weaker (Old i v.epoch) (Owned i (v.epoch + 1) (λ s. None)) (old_never i v.epoch (λ s. None)) (drop (v.delivered + 1) L ++ W) (old_rest v.bar b (h.fence u));
        unlike = λ u b. olds_unlike i v.epoch (drop (v.delivered + 1) L ++ W) (old_rest v.bar b (h.fence u));
      }

-- one's own message, and its row
module _ (n : ℕ) (unit : ℕ → ℕ) (L W : List Msg) (i : ℕ) (v : Site) (h : Good n unit L W i v)
    (up : v.running ≡ true) (t : Tx) (rest : List Msg) (here : drop v.delivered L ≡ transaction t ∷ rest)
    (s : ℕ) (r : Work) (o : Own i v t s r) where
  ld : Leads n i v
  ld = h.local.leads s r o.open_row

  mine : Mine v.rows t
  mine = (owned_here n unit L W i v h up (transaction t) rest here ld.bar).0 o.sent o.epoch

  mine_slot : mine.slot ≡ s
  mine_slot = h.local.alone mine.slot s mine.row r mine.open_row o.open_row (sym mine.client ∙ o.client) (sym mine.job ∙ o.job)

  same_stmts : t.stmts ≡ r.stmts
  same_stmts =
      let a : v.rows s ≡ Some mine.row = rw mine_slot at mine.open_row in
      let b = o.open_row in
      let c : mine.row ≡ r = cc in
      mine.stmts ∙ ap (λ (x : Work). x.stmts) c

  -- other messages keep their rows when this one's is closed
  kept : (x : Msg) → Unlike i v.epoch (transaction t) x → Owned i v.epoch v.rows x → Owned i v.epoch (upd v.rows s None) x
  kept (epoch_change k f) un g = tt
  kept (transaction b) un g = λ p q.
      let mb = g p q in
      let ne : mb.slot ≢ s = λ e.
      let a : v.rows s ≡ Some mb.row = rw e at mb.open_row in
      let z = o.open_row in
      let c : mb.row ≡ r = cc in
      un o.sent p o.epoch q (o.client ∙ sym (ap (λ (x : Work). x.client) c) ∙ sym mb.client) (o.job ∙ sym (ap (λ (x : Work). x.job) c) ∙ sym mb.job) in
      record {
        slot = mb.slot;
        row = mb.row;
        open_row = upd_other v.rows s None mb.slot ne ∙ mb.open_row;
        committing = mb.committing;
        client = mb.client;
        job = mb.job;
        stmts = mb.stmts;
      }

  kept_all : (l : List Msg) → All (Unlike i v.epoch (transaction t)) l → All (Owned i v.epoch v.rows) l → All (Owned i v.epoch (upd v.rows s None)) l
  kept_all [] a b = tt
  kept_all (x ∷ l) a b = (kept x a.0 b.0, kept_all l a.1 b.1)

  owned_closed : v.bar ≡ None → All (Owned i v.epoch (upd v.rows s None)) (drop (v.delivered + 1) L ++ W)
  owned_closed b =
      rw (dd n unit L W i v h up (transaction t) rest here)
      (kept_all (rest ++ W) (unlike_here n unit L W i v h up (transaction t) rest here b).0 (owned_here n unit L W i v h up (transaction t) rest here b).1)

  -- judged again: the row is closed
  good_ended : (p : ℕ) → judge (at L v.delivered) (transaction t) ≡ again p → Good n unit L W i (past (closing v s))
  good_ended p a =
      let na = next_again (at L v.delivered) (transaction t) p a in
      let pl = placed_past n unit L W i v h up (transaction t) rest here na.0 (λ q c. ap (λ (S : Cells). S c) na.1) in
      let lo = closing_local n unit i v s h.local in
      record {
        placed = record { d≤ = pl.d≤; m≤ = pl.m≤; ep = pl.ep; cm = pl.cm; cd = pl.cd };
        local = record {
          leads = λ q x e. record { up = (lo.leads q x e).up; bar = (lo.leads q x e).bar; lead = (lo.leads q x e).lead };
          link = lo.link;
          alone = lo.alone;
          few = lo.few;
          free = lo.free;
        };
        fence = λ u. fence_past L W i v.db.mark v.delivered v.epoch v.bar (h.fence u);
        owned = λ u b. owned_closed b;
        unlike = λ u b. rw (dd n unit L W i v h up (transaction t) rest here) (unlike_here n unit L W i v h up (transaction t) rest here b).1;
      }

-- a row whose cells another row's seal changed
module _ (unit : ℕ → ℕ) (S S' : Cells) (r : Work) (k : Slot) (ok : Fits unit S r k) (is : (c : ℕ) → S' c ≡ all_stepped S r.stmts c)
    (r₁ : Work) (k₁ : Slot) (ok₁ : Fits unit S r₁ k₁) (f : Free k k₁) (f₁ : Free k₁ k) where
  apart : Clear r₁.stmts r.stmts
  apart = slots_clear unit S S r₁ r k₁ k ok₁ ok f₁ f

  agrees : Agree r₁.stmts S S'
  agrees = All-weaker (λ a. S a.cell ≡ all_stepped S r.stmts a.cell) (λ a. S a.cell ≡ S' a.cell) (λ a g. g ∙ sym (is a.cell)) r₁.stmts
      (clear_agree r₁.stmts r.stmts S apart)

  own_sealed : (c : ℕ) (x : Option ℕ) → OwnFits unit S r₁.stmts k₁ c x → OwnFits unit S' r₁.stmts k₁ c x
  own_sealed c None g = g
  own_sealed c (Some x) g =
      let un : Unwritten c r.stmts = All-weaker (Locked unit k) (λ a. writes a ≡ true → a.cell ≢ c)
      (λ a y w e. both_ways (k₁.writes (unit c)) (f (unit c) (rw e at (y.0 w))).1 g.1) r.stmts ok.locks in
      (g.0 ∙ runs_agree r₁.stmts S S' c agrees (sym (is c ∙ runs_outside r.stmts S c un)), g.1)

  row_sealed : Fits unit S' r₁ k₁
  row_sealed =
      record {
        results = ok₁.results ∙ answers_agree r₁.stmts S S' agrees;
        own = λ c. own_sealed c (k₁.own c) (ok₁.own c);
        locks = ok₁.locks;
      }

link_move : (unit : ℕ → ℕ) (S S' : Cells) (p : Option Work) (o : Option Slot) →
    ((r : Work) (k : Slot) → p ≡ Some r → o ≡ Some k → Fits unit S r k → Fits unit S' r k) → Linked unit S p o → Linked unit S' p o
link_move unit S S' None None f h = tt
link_move unit S S' None (Some k) f h = h
link_move unit S S' (Some r) None f h = h
link_move unit S S' (Some r) (Some k) f h = f r k refl refl h

module _ (n : ℕ) (unit : ℕ → ℕ) (L W : List Msg) (i : ℕ) (v : Site) (h : Good n unit L W i v)
    (up : v.running ≡ true) (t : Tx) (rest : List Msg) (here : drop v.delivered L ≡ transaction t ∷ rest)
    (cmt : judge (at L v.delivered) (transaction t) ≡ committed) where
  after_is : (c : ℕ) → v.db.mark ≤ v.delivered → (at L (v.delivered + 1)).cells c ≡ all_stepped v.db.cells t.stmts c
  after_is c q =
      ap (λ (j : Summary). j.cells c) (at_here L v.delivered (transaction t) rest here) ∙ ap (λ (S : Cells). S c) (next_committed (at L v.delivered) t cmt).1
      ∙ runs_same t.stmts (at L v.delivered).cells v.db.cells (λ x. sym (h.placed.cd q x)) c

  placed_mark : (f : ℕ → Option Work) (g : ℕ → Option Slot) (S : Cells) → ((c : ℕ) → S c ≡ (at L (v.delivered + 1)).cells c) →
      Placed L (work (past v) f (record { cells = S; mark = v.delivered + 1; slots = g }))
  placed_mark f g S e =
      let lt = length_here L v.delivered (transaction t) rest here in
      record {
        d≤ = omega arith;
        m≤ = omega arith;
        ep = h.placed.ep ∙ sym (next_committed (at L v.delivered) t cmt).0 ∙ sym (ap (λ (j : Summary). j.epoch) (at_here L v.delivered (transaction t) rest here));
        cm = e;
        cd = λ q. e;
      }

  -- another's message finds no row open
  pub quiet : t.sender ≡ primary n t.epoch → ((s : ℕ) (r : Work) → Own i v t s r → ⊥) → (s : ℕ) (r : Work) → v.rows s ≡ Some r → ⊥
  quiet sp nx s r e =
      let l = h.local.leads s r e in
      let ep : t.epoch ≡ v.epoch = committed_epoch (at L v.delivered) t cmt ∙ sym h.placed.ep in
      let si : t.sender ≡ i = sp ∙ ap (primary n) ep ∙ sym l.lead in
      let mn = (owned_here n unit L W i v h up (transaction t) rest here l.bar).0 si ep in
      nx mn.slot mn.row (record { sent = si; epoch = ep; open_row = mn.open_row; committing = mn.committing; client = mn.client; job = mn.job })

  good_takes : t.sender ≡ primary n t.epoch → ((s : ℕ) (r : Work) → Own i v t s r → ⊥) → v.db.mark ≤ v.delivered → Good n unit L W i (taking v t.stmts)
  good_takes sp nx q =
      let qt = quiet sp nx in
      record {
        placed = placed_mark v.rows v.db.slots (all_stepped v.db.cells t.stmts) (λ c. sym (after_is c q));
        local =
            record {
              leads = λ s r e. absurd (qt s r e);
              link = λ s. link_move unit v.db.cells (all_stepped v.db.cells t.stmts) (v.rows s) (v.db.slots s) (λ r k e f g. absurd (qt s r e)) (h.local.link s);
              alone = h.local.alone;
              few = h.local.few;
              free = h.local.free;
            };
        fence = λ u. fence_mark L W i v.db.mark v.delivered v.epoch v.bar (h.fence u);
        owned = λ u b. rw (dd n unit L W i v h up (transaction t) rest here) (owned_here n unit L W i v h up (transaction t) rest here b).1;
        unlike = λ u b. rw (dd n unit L W i v h up (transaction t) rest here) (unlike_here n unit L W i v h up (transaction t) rest here b).1;
      }

  good_seals : (s : ℕ) (r : Work) (k : Slot) → Own i v t s r → v.db.slots s ≡ Some k → Good n unit L W i (sealing v s k)
  good_seals s r k o ek =
      let l = h.local.leads s r o.open_row in
      let q : v.db.mark ≤ v.delivered = let g : Fence L W i v.db.mark v.delivered v.epoch None = rw l.bar at (h.fence up) in g.0 in
      let S = v.db.cells in
      let ok = fine_at unit S (v.rows s) (v.db.slots s) r k o.open_row ek (h.local.link s) in
      let S' : Cells = λ c. or_else (k.own c) (S c) in
      let is : (c : ℕ) → S' c ≡ all_stepped S r.stmts c = λ c. own_value unit S r.stmts k c (k.own c) (ok.own c) in
      let st = same_stmts n unit L W i v h up t rest here s r o in
      let lo = closing_local n unit i v s h.local in
      record {
        placed = placed_mark (upd v.rows s None) (upd v.db.slots s None) S' (λ c. is c ∙ sym (ap (λ (x : List Statement). all_stepped S x c) st) ∙ sym (after_is c q));
        local =
            record {
              leads = λ x y e. record { up = l.up; bar = l.bar; lead = l.lead };
              link = upd_all₂ (λ x. Linked unit S') v.rows v.db.slots s None None tt
                  (λ x ne. link_move unit S S' (v.rows x) (v.db.slots x)
                  (λ r₁ k₁ e₁ f₁ g. row_sealed unit S S' r k ok is r₁ k₁ g (h.local.free s x k k₁ (λ y. ne (sym y)) ek f₁) (h.local.free x s k₁ k ne f₁ ek))
                  (h.local.link x));
              alone = lo.alone;
              few = lo.few;
              free = lo.free;
            };
        fence = λ u. fence_mark L W i v.db.mark v.delivered v.epoch v.bar (h.fence u);
        owned = λ u b. owned_closed n unit L W i v h up t rest here s r o b;
        unlike = λ u b. rw (dd n unit L W i v h up (transaction t) rest here) (unlike_here n unit L W i v h up (transaction t) rest here b).1;
      }

  good_has : v.delivered < v.db.mark → Good n unit L W i (past v)
  good_has lt = good_past n unit L W i v h up (transaction t) rest here (next_committed (at L v.delivered) t cmt).0 (λ q. absurd (omega arith))

module _ (n : ℕ) (unit : ℕ → ℕ) (L W : List Msg) (i : ℕ) (v : Site) (h : Good n unit L W i v) (up : v.running ≡ true) (m : Msg) (rest : List Msg)
    (here : drop v.delivered L ≡ m ∷ rest) (kn : Known n (from start L).epoch m) where
  pub deliver_good : (w : Site) → Delivers i v (at L v.delivered) m w → Good n unit L W i w
  deliver_good w (rises a e) = rw e (good_risen n unit L W i v h up m rest here a)
  deliver_good w (is_stale a e) =
      let s = next_stale (at L v.delivered) m a in rw e (good_past n unit L W i v h up m rest here s.0 (λ q c. ap (λ (S : Cells). S c) s.1))
  deliver_good w (is_late a e) =
      let s = next_late (at L v.delivered) m a in rw e (good_past n unit L W i v h up m rest here s.0 (λ q c. ap (λ (S : Cells). S c) s.1))
  deliver_good w (seals_own t s r k em a o ek e) = rw e (good_seals n unit L W i v h up t rest (rw em at here) (rw em at a) s r k o ek)
  deliver_good w (takes_in t em a nx q e) = rw e (good_takes n unit L W i v h up t rest (rw em at here) (rw em at a) (rw em at kn).1 nx q)
  deliver_good w (has_it t em a nx q e) = rw e (good_has n unit L W i v h up t rest (rw em at here) (rw em at a) q)
  deliver_good w (ends_own t s r p em a o e) = rw e (good_ended n unit L W i v h up t rest (rw em at here) s r o p (rw em at a))
  deliver_good w (passes t p em a nx e) =
      let s = next_again (at L v.delivered) m p a in rw e (good_past n unit L W i v h up m rest here s.0 (λ q c. ap (λ (S : Cells). S c) s.1))
