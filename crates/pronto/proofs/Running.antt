-- A statement run in a slot keeps the invariant: the slot sees what the transaction's run leaves, and no other slot is hindered.
use Rattle.std.proofs.Common.{◌≡◌, ℕ, Bool, true, false, ◌≢◌, List, [], ◌∷◌, ◌++◌, Some, None, Option, sym, refl, ap, ◌∙◌, inl, inr, arith}
use native.Mathlib.Decide.{ℕ_discrete}
use Rattle.std.proofs.lemmas.Bool.{both_ways}
use Rattle.std.proofs.ByRecursion.{All-weaker, All-append}
use Rattle.statement.specs.declared.checked.Statement.{Statement}
use Rattle.statement.specs.Operations.{changed, answered}
use Rattle.replica.specs.Meanings.{Slot, upd, or_else, all_stepped}
use Rattle.replica.proofs.Updates.{put_same, upd_same, upd_other, upd_all₂, new, old, upd_view}
use Rattle.message.specs.Messages.{Msg}
use Rattle.pronto.specs.Servers.{Work, Site, noted}
use Rattle.pronto.proofs.Clear.{Cells, writes, runs_push, answers_push, runs_outside, one_outside}
use Rattle.pronto.proofs.Views.{ran_in, Hinders, working}
use Rattle.pronto.proofs.Invariant.{OwnFits, Locked, Fits, Linked, Free, Local, Good}
use Rattle.pronto.proofs.Rows.{fine_at, good_work}

not_true : (b : Bool) → (b ≡ true → ⊥) → b ≡ false
not_true true h = absurd (h refl)
not_true false h = refl

upd_true : (f : ℕ → Bool) (i u : ℕ) → f u ≡ true → upd f i true u ≡ true
upd_true f i u h =
    elim (ℕ_discrete u i) [
      | yes e ↦ rw (e, upd_same f i true)
      | no ne ↦ upd_other f i true u ne ∙ h
    ]

-- the value that a slot shows is what the row's run leaves
pub own_value : (unit : ℕ → ℕ) (S : Cells) (t : List Statement) (k : Slot) (c : ℕ) (o : Option ℕ) → OwnFits unit S t k c o → or_else o (S c) ≡ all_stepped S t c
own_value unit S t k c None h = sym (runs_outside t S c h)
own_value unit S t k c (Some v) h = h.0

module _ (a : Statement) (u x : ℕ) (k : Slot) where
  ran_w : (q : ℕ) → k.writes q ≡ true → (ran_in a u x k).writes q ≡ true
  ran_w q h = go (writes a) refl
    where
      go : (b : Bool) → writes a ≡ b → (ran_in a u x k).writes q ≡ true
      go true e = rw e (upd_true k.writes u q h)
      go false e = rw e h

  ran_r : (q : ℕ) → k.reads q ≡ true → (ran_in a u x k).reads q ≡ true
  ran_r q h = go (writes a) refl
    where
      go : (b : Bool) → writes a ≡ b → (ran_in a u x k).reads q ≡ true
      go true e = rw e h
      go false e = rw e (upd_true k.reads u q h)

  ran_free : (o : Slot) → Free k o → (Hinders a u o → ⊥) → Free (ran_in a u x k) o
  ran_free o f nh q h = go (writes a) refl
    where
      go : (b : Bool) → writes a ≡ b → (o.reads q ≡ false) × (o.writes q ≡ false)
      go true e =
          elim (ℕ_discrete q u) [
            | yes p ↦ rw p (not_true (o.reads u) (λ y. nh (inr (e, y))), not_true (o.writes u) (λ y. nh (inl y)))
            | no np ↦ f q (sym (upd_other k.writes u true q np) ∙ (rw e at h))
          ]
      go false e = f q (rw e at h)

  ran_free' : (o : Slot) → Free o k → (Hinders a u o → ⊥) → Free o (ran_in a u x k)
  ran_free' o f nh q h =
      let ne : q ≢ u = λ p. nh (inl (rw p at h)) in
      go ne (writes a) refl
    where
      go : q ≢ u → (b : Bool) → writes a ≡ b → ((ran_in a u x k).reads q ≡ false) × ((ran_in a u x k).writes q ≡ false)
      go ne true e = rw e ((f q h).0, upd_other k.writes u true q ne ∙ (f q h).1)
      go ne false e = rw e (upd_other k.reads u true q ne ∙ (f q h).0, (f q h).1)

own_step : (unit : ℕ → ℕ) (S : Cells) (t : List Statement) (a : Statement) (k k' : Slot) (c : ℕ) → ((q : ℕ) → k.writes q ≡ true → k'.writes q ≡ true) →
    (writes a ≡ true → a.cell ≢ c) → (o : Option ℕ) → OwnFits unit S t k c o → OwnFits unit S (t ++ a ∷ []) k' c o
own_step unit S t a k k' c mono away None h = All-append (λ b. writes b ≡ true → b.cell ≢ c) t (a ∷ []) h (away, tt)
own_step unit S t a k k' c mono away (Some v) h =
    (h.0 ∙ sym (one_outside a (all_stepped S t) c away) ∙ sym (ap (λ (F : Cells). F c) (runs_push t a S)), mono (unit c) h.1)

module _ (unit : ℕ → ℕ) (S : Cells) (r : Work) (k : Slot) (h : Fits unit S r k) (a : Statement) where
  seen : ℕ
  seen = or_else (k.own a.cell) (S a.cell)

  seen_is : seen ≡ all_stepped S r.stmts a.cell
  unfolding seen
  seen_is = own_value unit S r.stmts k a.cell (k.own a.cell) (h.own a.cell)

  own_ran : (c : ℕ) → OwnFits unit S (r.stmts ++ a ∷ []) (ran_in a (unit a.cell) seen k) c ((ran_in a (unit a.cell) seen k).own c)
  own_ran c = go (writes a) refl
    where
      go : (b : Bool) → writes a ≡ b → OwnFits unit S (r.stmts ++ a ∷ []) (ran_in a (unit a.cell) seen k) c ((ran_in a (unit a.cell) seen k).own c)
      go true e =
          rw e (elim (ℕ_discrete c a.cell) [
            | yes p ↦ rw (p, upd_same k.own a.cell (Some (changed a.operation seen))) (
              ap (changed a.operation) seen_is ∙ sym (put_same (all_stepped S r.stmts) a.cell (changed a.operation (all_stepped S r.stmts a.cell))) ∙ sym (ap (λ (F : Cells). F a.cell) (runs_push r.stmts a S)),
              upd_same k.writes (unit a.cell) true,
            )
            | no np ↦ rw (upd_other k.own a.cell (Some (changed a.operation seen)) c np)
                (own_step unit S r.stmts a k (record { reads = k.reads; writes = upd k.writes (unit a.cell) true; own = upd k.own a.cell (Some (changed a.operation seen)) }) c
                (λ q y. upd_true k.writes (unit a.cell) q y) (λ w y. np (sym y)) (k.own c) (h.own c))
          ])
      go false e =
          rw e (own_step unit S r.stmts a k (record { reads = upd k.reads (unit a.cell) true; writes = k.writes; own = k.own }) c (λ q y. y)
          (λ w. absurd (both_ways (writes a) e w)) (k.own c) (h.own c))

  locked_here : Locked unit (ran_in a (unit a.cell) seen k) a
  locked_here = go (writes a) refl
    where
      go : (b : Bool) → writes a ≡ b → Locked unit (ran_in a (unit a.cell) seen k) a
      go true e = rw e ((λ y. upd_same k.writes (unit a.cell) true), inr (upd_same k.writes (unit a.cell) true))
      go false e = rw e ((λ y. absurd (both_ways false refl y)), inl (upd_same k.reads (unit a.cell) true))

  ran_ok : Fits unit S (noted r a (answered a.operation seen)) (ran_in a (unit a.cell) seen k)
  ran_ok =
      record {
        results = let e = answers_push r.stmts a S in let f = h.results in let g = seen_is in cc;
        own = own_ran;
        locks = All-append (Locked unit (ran_in a (unit a.cell) seen k)) r.stmts (a ∷ [])
            (All-weaker (Locked unit k) (Locked unit (ran_in a (unit a.cell) seen k))
            (λ b y. (
              (λ w. ran_w a (unit a.cell) seen k (unit b.cell) (y.0 w)),
              elim y.1 [ inl z ↦ inl (ran_r a (unit a.cell) seen k (unit b.cell) z) | inr z ↦ inr (ran_w a (unit a.cell) seen k (unit b.cell) z) ],
            ))
            r.stmts h.locks)
            (locked_here, tt);
      }

module _ (n : ℕ) (unit : ℕ → ℕ) (i : ℕ) (v : Site) (h : Local n unit i v) (s : ℕ) (r : Work) (k : Slot) (a : Statement)
    (er : v.rows s ≡ Some r) (ek : v.db.slots s ≡ Some k)
    (nh : (q : ℕ) (o : Slot) → q ≢ s → v.db.slots q ≡ Some o → Hinders a (unit a.cell) o → ⊥) where
  run_local : Local n unit i (working v s r k a (unit a.cell))
  unfolding seen
  run_local =
      let x = or_else (k.own a.cell) (v.db.cells a.cell) in
      let r₂ = noted r a (answered a.operation x) in
      let k₂ = ran_in a (unit a.cell) x k in
      let fine = fine_at unit v.db.cells (v.rows s) (v.db.slots s) r k er ek (h.link s) in
      record {
        leads = λ q r' e. record { up = (h.leads s r er).up; bar = (h.leads s r er).bar; lead = (h.leads s r er).lead };
        link = upd_all₂ (λ q. Linked unit v.db.cells) v.rows v.db.slots s (Some r₂) (Some k₂) (ran_ok unit v.db.cells r k fine a) (λ j ne. h.link j);
        alone = λ q q' r₁ r₁' e e' a₁ b₁.
            elim (upd_view v.rows s (Some r₂) q (Some r₁) e) [
              | new p z ↦ elim (upd_view v.rows s (Some r₂) q' (Some r₁') e') [
                | new p' z' ↦ p ∙ sym p'
                | old p' z' ↦ let y : r₂ ≡ r₁ = cc in p ∙ h.alone s q' r r₁' er z' (ap (λ (w : Work). w.client) y ∙ a₁) (ap (λ (w : Work). w.job) y ∙ b₁)
              ]
              | old p z ↦ elim (upd_view v.rows s (Some r₂) q' (Some r₁') e') [
                | new p' z' ↦ let y : r₂ ≡ r₁' = cc in h.alone q s r₁ r z er (a₁ ∙ sym (ap (λ (w : Work). w.client) y)) (b₁ ∙ sym (ap (λ (w : Work). w.job) y)) ∙ sym p'
                | old p' z' ↦ h.alone q q' r₁ r₁' z z' a₁ b₁
              ]
            ];
        few = λ q r' e. let z = h.few s r er in elim (upd_view v.rows s (Some r₂) q (Some r') e) [ new p x ↦ omega arith | old p x ↦ h.few q r' x ];
        free = λ q q' o o' ne e e'.
            elim (upd_view v.db.slots s (Some k₂) q (Some o) e) [
              | new p z ↦ elim (upd_view v.db.slots s (Some k₂) q' (Some o') e') [
                | new p' z' ↦ absurd (ne (p ∙ sym p'))
                | old p' z' ↦ let y : k₂ ≡ o = cc in rw (← y) (ran_free a (unit a.cell) x k o' (h.free s q' k o' (λ w. p' (sym w)) ek z') (nh q' o' p' z'))
              ]
              | old p z ↦ elim (upd_view v.db.slots s (Some k₂) q' (Some o') e') [
                | new p' z' ↦ let y : k₂ ≡ o' = cc in rw (← y) (ran_free' a (unit a.cell) x k o (h.free q s o k p z ek) (nh q o p z))
                | old p' z' ↦ h.free q q' o o' ne z z'
              ]
            ];
      }

pub run_good : (n : ℕ) (unit : ℕ → ℕ) (L W : List Msg) (i : ℕ) (v : Site) (s : ℕ) (r : Work) (k : Slot) (a : Statement) → Good n unit L W i v →
    v.rows s ≡ Some r → r.committing ≡ false → v.db.slots s ≡ Some k →
    ((q : ℕ) (o : Slot) → q ≢ s → v.db.slots q ≡ Some o → Hinders a (unit a.cell) o → ⊥) → Good n unit L W i (working v s r k a (unit a.cell))
run_good n unit L W i v s r k a h er ex ek nh =
    let x = or_else (k.own a.cell) (v.db.cells a.cell) in
    good_work n unit L W i v s (Some (noted r a (answered a.operation x))) (upd v.db.slots s (Some (ran_in a (unit a.cell) x k)))
    (λ r' e' q. let y : r ≡ r' = cc in both_ways r'.committing (rw y at ex) q)
    h (run_local n unit i v h.local s r k a er ek nh)
