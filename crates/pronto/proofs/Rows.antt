-- The rows and slots of one server: a begin and an abort keep the invariant. From upd, and from what the table tells of a begin.
use Rattle.std.proofs.Common.{◌≡◌, ℕ, ◌<◌, true, false, ◌≢◌, ◌⊎◌, List, ◌++◌, drop, is_some, Some, None, Option, sym, refl, ap, ◌∙◌, inl, inr, arith}
use Rattle.std.specs.List.{AllByRecursion as All}
use Rattle.std.proofs.lemmas.Bool.{both_ways}
use Rattle.std.proofs.ByRecursion.{All-weaker}
use Rattle.statement.specs.declared.checked.Statement.{Statement}
use Rattle.replica.specs.Meanings.{Slot, upd, fresh}
use Rattle.replica.proofs.Updates.{upd_other, upd_all₂, new, old, upd_view}
use Rattle.message.specs.Messages.{Tx, Msg, epoch_change, transaction}
use Rattle.journal.specs.Judging.{primary}
use Rattle.pronto.specs.Servers.{Work, Site, new_work}
use Rattle.pronto.proofs.Clear.{Cells, writes, Apart, Clear}
use Rattle.pronto.proofs.Views.{with_slots, work, opening, closing}
use Rattle.pronto.proofs.Invariant.{Owned, Mine, Locked, Fits, Linked, Free, Placed, Local, Good}

pub none_some : {A : Type 0} (o : Option A) (x : A) → o ≡ None → o ≡ Some x → ⊥
none_some o x p q = let z : ◌≡◌ {A = ℕ} 0 1 = cc in omega arith

-- an open row has a slot
pub record Slotted (unit : ℕ → ℕ) (S : Cells) (r : Work) (o : Option Slot) : Type 0 where
  pub slot : Slot
  pub is : o ≡ Some slot
  pub fine : Fits unit S r slot

slotted : (unit : ℕ → ℕ) (S : Cells) (r : Work) (o : Option Slot) → Linked unit S (Some r) o → Slotted unit S r o
slotted unit S r None h = absurd h
slotted unit S r (Some k) h = record { slot = k; is = refl; fine = h }

pub slot_there : (unit : ℕ → ℕ) (S : Cells) (p : Option Work) (o : Option Slot) (r : Work) → p ≡ Some r → Linked unit S p o → Slotted unit S r o
slot_there unit S p o r e h = slotted unit S r o (rw e at h)

-- a row is open exactly if its slot is
pub linked_open : (unit : ℕ → ℕ) (S : Cells) (p : Option Work) (o : Option Slot) → Linked unit S p o → is_some p ≡ is_some o
linked_open unit S None None h = refl
linked_open unit S None (Some k) h = absurd h
linked_open unit S (Some r) None h = absurd h
linked_open unit S (Some r) (Some k) h = refl

pub fine_at : (unit : ℕ → ℕ) (S : Cells) (p : Option Work) (o : Option Slot) (r : Work) (k : Slot) → p ≡ Some r → o ≡ Some k → Linked unit S p o → Fits unit S r k
fine_at unit S p o r k e f h = rw (e, f) at h

-- the transactions of two open slots are clear of each other
pub slots_clear : (unit : ℕ → ℕ) (S S' : Cells) (r r' : Work) (k k' : Slot) → Fits unit S r k → Fits unit S' r' k' → Free k k' → Free k' k → Clear r.stmts r'.stmts
slots_clear unit S S' r r' k k' h h' f f' =
    All-weaker (Locked unit k) (λ a. All (λ b. Apart a b) r'.stmts)
    (λ a g. All-weaker (Locked unit k') (λ b. Apart a b) (λ b g' w e. clash a b g g' w e) r'.stmts h'.locks) r.stmts h.locks
  where
    clash : (a b : Statement) → Locked unit k a → Locked unit k' b → (writes a ≡ true) ⊎ (writes b ≡ true) → a.cell ≡ b.cell → ⊥
    clash a b g g' (inl p) e =
        let q = f (unit a.cell) (g.0 p) in
        elim g'.1 [
          | inl y ↦ both_ways (k'.reads (unit b.cell)) (rw e at q.0) y
          | inr y ↦ both_ways (k'.writes (unit b.cell)) (rw e at q.1) y
        ]
    clash a b g g' (inr p) e =
        let q = f' (unit b.cell) (g'.0 p) in
        elim g.1 [
          | inl y ↦ both_ways (k.reads (unit b.cell)) q.0 (rw e at y)
          | inr y ↦ both_ways (k.writes (unit b.cell)) q.1 (rw e at y)
        ]

-- a message's row stays where another row changes
mine_upd : (rows : ℕ → Option Work) (s : ℕ) (x : Option Work) (t : Tx) → ((r : Work) → rows s ≡ Some r → r.committing ≡ true → ⊥) → Mine rows t → Mine (upd rows s x) t
mine_upd rows s x t h m =
    let ne : m.slot ≢ s = λ e. h m.row (rw e at m.open_row) m.committing in
    record {
      slot = m.slot;
      row = m.row;
      open_row = upd_other rows s x m.slot ne ∙ m.open_row;
      committing = m.committing;
      client = m.client;
      job = m.job;
      stmts = m.stmts;
    }

pub owned_upd : (i e : ℕ) (rows : ℕ → Option Work) (s : ℕ) (x : Option Work) → ((r : Work) → rows s ≡ Some r → r.committing ≡ true → ⊥) →
    (m : Msg) → Owned i e rows m → Owned i e (upd rows s x) m
owned_upd i e rows s x h (epoch_change k f) g = tt
owned_upd i e rows s x h (transaction t) g = λ p q. mine_upd rows s x t h (g p q)

-- a change of one row and slot that is not committing
placed_work : (L : List Msg) (v : Site) (f : ℕ → Option Work) (g : ℕ → Option Slot) → Placed L v → Placed L (work v f (with_slots v.db g))
placed_work L v f g h = record { d≤ = h.d≤; m≤ = h.m≤; ep = h.ep; cm = h.cm; cd = h.cd }

pub good_work : (n : ℕ) (unit : ℕ → ℕ) (L W : List Msg) (i : ℕ) (v : Site) (s : ℕ) (x : Option Work) (g : ℕ → Option Slot) →
    ((r : Work) → v.rows s ≡ Some r → r.committing ≡ true → ⊥) →
    Good n unit L W i v → Local n unit i (work v (upd v.rows s x) (with_slots v.db g)) → Good n unit L W i (work v (upd v.rows s x) (with_slots v.db g))
good_work n unit L W i v s x g ne h l =
    record {
      placed = placed_work L v (upd v.rows s x) g h.placed;
      local = l;
      fence = h.fence;
      owned = λ u b. All-weaker (Owned i v.epoch v.rows) (Owned i v.epoch (upd v.rows s x)) (owned_upd i v.epoch v.rows s x ne) (drop v.delivered L ++ W) (h.owned u b);
      unlike = h.unlike;
    }

-- begin
module _ (n : ℕ) (unit : ℕ → ℕ) (i : ℕ) (v : Site) (h : Local n unit i v) (s c k : ℕ)
    (up : v.running ≡ true) (lead : i ≡ primary n v.epoch) (bar : v.bar ≡ None)
    (unlike : (q : ℕ) (r : Work) → v.rows q ≡ Some r → r.client ≡ c → r.job ≡ k → ⊥)
    (low : s < 8) where
  begin_local : Local n unit i (opening v s c k)
  begin_local =
      record {
        leads = λ q r e. record { up = up; bar = bar; lead = lead };
        link = upd_all₂ (λ q. Linked unit v.db.cells) v.rows v.db.slots s (Some (new_work c k)) (Some fresh)
            (record { results = refl; own = λ x. tt; locks = tt }) (λ j ne. h.link j);
        alone = λ q q' r r' e e' a b.
            elim (upd_view v.rows s (Some (new_work c k)) q (Some r) e) [
              | new p x ↦ elim (upd_view v.rows s (Some (new_work c k)) q' (Some r') e') [
                | new p' x' ↦ p ∙ sym p'
                | old p' x' ↦ absurd (let y : new_work c k ≡ r = cc in unlike q' r' x' (sym a ∙ sym (ap (λ (z : Work). z.client) y)) (sym b ∙ sym (ap (λ (z : Work). z.job) y)))
              ]
              | old p x ↦ elim (upd_view v.rows s (Some (new_work c k)) q' (Some r') e') [
                | new p' x' ↦ absurd (let y : new_work c k ≡ r' = cc in unlike q r x (a ∙ sym (ap (λ (z : Work). z.client) y)) (b ∙ sym (ap (λ (z : Work). z.job) y)))
                | old p' x' ↦ h.alone q q' r r' x x' a b
              ]
            ];
        few = λ q r e. elim (upd_view v.rows s (Some (new_work c k)) q (Some r) e) [ new p x ↦ omega arith | old p x ↦ h.few q r x ];
        free = λ q q' o o' ne e e' u w.
            elim (upd_view v.db.slots s (Some fresh) q (Some o) e) [
              | new p x ↦ absurd (let y : fresh ≡ o = cc in both_ways false refl (ap (λ (z : Slot). z.writes u) y ∙ w))
              | old p x ↦ elim (upd_view v.db.slots s (Some fresh) q' (Some o') e') [
                | new p' x' ↦ let y : fresh ≡ o' = cc in (sym (ap (λ (z : Slot). z.reads u) y), sym (ap (λ (z : Slot). z.writes u) y))
                | old p' x' ↦ h.free q q' o o' ne x x' u w
              ]
            ];
      }

pub begin_good : (n : ℕ) (unit : ℕ → ℕ) (L W : List Msg) (i : ℕ) (v : Site) (s c k : ℕ) → Good n unit L W i v →
    v.running ≡ true → i ≡ primary n v.epoch → v.bar ≡ None → ((q : ℕ) (r : Work) → v.rows q ≡ Some r → r.client ≡ c → r.job ≡ k → ⊥) →
    v.rows s ≡ None → s < 8 → Good n unit L W i (opening v s c k)
begin_good n unit L W i v s c k h up lead bar unlike empty low =
    good_work n unit L W i v s (Some (new_work c k)) (upd v.db.slots s (Some fresh))
    (λ r e q. none_some (v.rows s) r empty e)
    h (begin_local n unit i v h.local s c k up lead bar unlike low)

-- abort: a row and its slot closed
pub closing_local : (n : ℕ) (unit : ℕ → ℕ) (i : ℕ) (v : Site) (s : ℕ) → Local n unit i v → Local n unit i (closing v s)
closing_local n unit i v s h =
    record {
      leads = λ q r e. elim (upd_view v.rows s None q (Some r) e) [
        | new p x ↦ absurd (none_some (Some r) r (sym x) refl)
        | old p x ↦ record { up = (h.leads q r x).up; bar = (h.leads q r x).bar; lead = (h.leads q r x).lead }
      ];
      link = upd_all₂ (λ q. Linked unit v.db.cells) v.rows v.db.slots s None None tt (λ j ne. h.link j);
      alone = λ q q' r r' e e' a b.
          elim (upd_view v.rows s None q (Some r) e) [
            | new p x ↦ absurd (none_some (Some r) r (sym x) refl)
            | old p x ↦ elim (upd_view v.rows s None q' (Some r') e') [
              | new p' x' ↦ absurd (none_some (Some r') r' (sym x') refl)
              | old p' x' ↦ h.alone q q' r r' x x' a b
            ]
          ];
      few = λ q r e. elim (upd_view v.rows s None q (Some r) e) [ new p x ↦ absurd (none_some (Some r) r (sym x) refl) | old p x ↦ h.few q r x ];
      free = λ q q' o o' ne e e'.
          elim (upd_view v.db.slots s None q (Some o) e) [
            | new p x ↦ absurd (none_some (Some o) o (sym x) refl)
            | old p x ↦ elim (upd_view v.db.slots s None q' (Some o') e') [
              | new p' x' ↦ absurd (none_some (Some o') o' (sym x') refl)
              | old p' x' ↦ h.free q q' o o' ne x x'
            ]
          ];
    }

pub abort_good : (n : ℕ) (unit : ℕ → ℕ) (L W : List Msg) (i : ℕ) (v : Site) (s : ℕ) (r : Work) → Good n unit L W i v →
    v.rows s ≡ Some r → r.committing ≡ false → Good n unit L W i (closing v s)
abort_good n unit L W i v s r h e f =
    good_work n unit L W i v s None (upd v.db.slots s None)
    (λ r' e' q. let y : r ≡ r' = cc in both_ways r'.committing (rw y at f) q)
    h (closing_local n unit i v s h.local)
