-- Commit and suspect keep the invariant: a message is sent. A commit's results are those of a run from the end of the log, since
-- what its server has not delivered of its epoch is its own, and clear of it by the locks.
use Rattle.std.proofs.Common.{◌≡◌, ℕ, ◌+◌, ◌<◌, ◌≤◌, true, false, ◌≢◌, List, [], ◌∷◌, ◌++◌, length, take, drop, Some, None, Option, sym, refl, ap, ◌∙◌, arith}
use Rattle.std.specs.List.{AllByRecursion as All}
use Rattle.std.proofs.lemmas.List.{take-append-drop, length-append}
use Rattle.std.proofs.lemmas.Bool.{both_ways}
use Rattle.std.proofs.ByRecursion.{All-weaker, All-append, All-drop}
use Rattle.statement.specs.declared.checked.Statement.{Statement}
use Rattle.replica.specs.Meanings.{Slot, upd}
use Rattle.replica.proofs.Updates.{upd_same, upd_all, new, old, upd_view}
use Rattle.message.specs.Messages.{Tx, Msg, epoch_change, transaction}
use Rattle.journal.specs.Runs.{answers}
use Rattle.journal.specs.Judging.{Summary, next, start, from, at, primary}
use Rattle.journal.proofs.Fronts.{from_append, at_all, at_epoch, next_epoch, from_epoch, sees, is_accepted, is_stale, is_committed, is_late, is_again}
use Rattle.pronto.specs.Servers.{Work, Site, committing_now, sent_off}
use Rattle.pronto.specs.States.{State, change, with_messages}
use Rattle.pronto.specs.Acts.{message_of}
use Rattle.pronto.proofs.Clear.{Cells, Agree, Clear, clear_agree, answers_agree}
use Rattle.pronto.proofs.Everywhere.{all_in, all_any, all_both, all_left, all_right, all_offered, pairs_in, pairs_offered}
use Rattle.pronto.proofs.Invariant.{Old, Owned, Mine, Unlike, Linked, Placed, Local, Fence, Good, Known, Sound, Clears, Inv}
use Rattle.pronto.proofs.Rows.{slot_there, slots_clear, owned_upd}
use Rattle.pronto.proofs.Orders.{unlike_flip, clears_flip}

-- a message of epoch e that is clear of statements
abbrev Shy : ℕ → List Statement → Msg → Type 0
Shy e t (epoch_change i k) = Unit {0}
Shy e t (transaction x) = x.epoch ≡ e → Clear t x.stmts

agree_trans : (t : List Statement) (S S' S'' : Cells) → Agree t S S' → Agree t S' S'' → Agree t S S''
agree_trans [] S S' S'' h k = tt
agree_trans (a ∷ t) S S' S'' h k = (h.0 ∙ k.0, agree_trans t S S' S'' h.1 k.1)

agree_refl : (t : List Statement) (S : Cells) → Agree t S S
agree_refl [] S = tt
agree_refl (a ∷ t) S = (refl, agree_refl t S)

next_agree : (t : List Statement) (j : Summary) (m : Msg) → (next j m).epoch ≡ j.epoch → Shy j.epoch t m → Agree t j.cells (next j m).cells
next_agree t j m same h =
    elim (sees j m) [
      | is_accepted i e g ↦ rw g (agree_refl t j.cells)
      | is_stale i e f g ↦ rw g (agree_refl t j.cells)
      | is_committed x e f g ↦ rw (g, e) (clear_agree t x.stmts j.cells ((rw e at h) f))
      | is_late x e f g ↦ rw g (agree_refl t j.cells)
      | is_again x p e f g ↦ rw g (agree_refl t j.cells)
    ]

-- while the epoch stands, statements that are clear of all of its messages find their cells as they were
tail_agree : (t : List Statement) (j : Summary) (l : List Msg) → (from j l).epoch ≡ j.epoch → All (Shy j.epoch t) l → Agree t j.cells (from j l).cells
tail_agree t j [] same h = agree_refl t j.cells
tail_agree t j (m ∷ l) same h =
    let a = next_epoch j m in
    let b = from_epoch (next j m) l in
    let e : (next j m).epoch ≡ j.epoch = omega arith in
    agree_trans t j.cells (next j m).cells (from (next j m) l).cells (next_agree t j m e h.0)
    (tail_agree t (next j m) l (same ∙ sym e) (rw e h.1))

-- a message that is nothing to a server
record Alien (i : ℕ) (m : Msg) : Type 0 where
  old : (e : ℕ) → Old i e m
  owned : (e : ℕ) (rows : ℕ → Option Work) → Owned i e rows m
  unlike : (e : ℕ) (x : Msg) → Unlike i e m x

fence_offer : (L V W : List Msg) (m : Msg) (i q d e : ℕ) → ((f : ℕ) → Old i f m) → (b : Option ℕ) → Fence L (V ++ W) i q d e b → Fence L (V ++ m ∷ W) i q d e b
fence_offer L V W m i q d e o None h = (h.0, all_offered (Old i e) m L V W (o e) h.1)
fence_offer L V W m i q d e o (Some b) h = (h.0, h.1, all_offered (Old i (at L b).epoch) m L V W (o (at L b).epoch) h.2)

good_alien : (n : ℕ) (unit : ℕ → ℕ) (L V W : List Msg) (m : Msg) (i : ℕ) (v : Site) → Alien i m → Good n unit L (V ++ W) i v → Good n unit L (V ++ m ∷ W) i v
good_alien n unit L V W m i v a h =
    record {
      placed = h.placed;
      local = h.local;
      fence = λ r. fence_offer L V W m i v.db.mark v.delivered v.epoch a.old v.bar (h.fence r);
      owned = λ r b. all_offered (Owned i v.epoch v.rows) m (drop v.delivered L) V W (a.owned v.epoch v.rows) (h.owned r b);
      unlike = λ r b. pairs_offered (Unlike i v.epoch) (unlike_flip i v.epoch) m (drop v.delivered L) V W
          (all_any (Unlike i v.epoch m) (a.unlike v.epoch) (drop v.delivered L ++ (V ++ W))) (h.unlike r b);
    }

epoch_alien : (i k e : ℕ) → Alien i (epoch_change k e)
epoch_alien i k e = record { old = λ f. tt; owned = λ f rows. tt; unlike = λ f x. tt }

other_unlike : (i e : ℕ) (t : Tx) → t.sender ≢ i → (x : Msg) → Unlike i e (transaction t) x
other_unlike i e t ne (epoch_change k f) = tt
other_unlike i e t ne (transaction b) = λ p. absurd (ne p)

other_alien : (i : ℕ) (t : Tx) → t.sender ≢ i → Alien i (transaction t)
other_alien i t ne = record { old = λ e p. absurd (ne p); owned = λ e rows p. absurd (ne p); unlike = λ e. other_unlike i e t ne }

-- the epoch of a server is at most the log's
epoch_known : (L : List Msg) (v : Site) → Placed L v → v.epoch ≤ (from start L).epoch
epoch_known L v h =
    let a = at_epoch L v.delivered (length L) h.d≤ in
    let b : (at L (length L)).epoch ≡ (from start L).epoch = ap (λ (j : Summary). j.epoch) (at_all L) in
    let c = h.ep in
    omega arith

pub suspect_keeps : (s : State) (L V W : List Msg) (k i : ℕ) → length L + length (V ++ W) < s.capacity → Inv (with_messages s L (V ++ W) k) →
    Inv (with_messages s L (V ++ epoch_change i (s.servers i).epoch ∷ W) (k + 1))
suspect_keeps s L V W k i lt h =
    let n = s.count in
    let m = epoch_change i (s.servers i).epoch in
    let E = (from start L).epoch in
    let c = h.count in
    record {
      good = λ j. good_alien n (s.units j) L V W m j (s.servers j) (epoch_alien j i (s.servers i).epoch) (h.good j);
      known = all_offered (Known n E) m L V W (epoch_known L (s.servers i) (h.good i).placed) h.known;
      right = h.right;
      sound = all_in (Sound E (from start L).cells) m V W tt h.sound;
      clears = pairs_in (Clears E) (clears_flip E) m V W (all_any (Clears E m) (λ x. tt) (V ++ W)) h.clears;
      count = simp length-append (omega (arith, simp length-append at c));
      room = simp length-append (omega (arith, simp length-append at lt));
      small = h.small;
      enough = h.enough;
    }

-- the log, cut at a position
cut_at : (L : List Msg) (d : ℕ) → from start L ≡ from (at L d) (drop d L)
unfolding at
cut_at L d = ap (from start) (sym (take-append-drop d L)) ∙ from_append start (take d L) (drop d L)

abbrev sent_tx : ℕ → Site → Work → Tx
sent_tx i v w = record { sender = i; epoch = v.epoch; client = w.client; job = w.job; stmts = w.stmts; results = w.results }

-- what is known where row s commits
module _ (n : ℕ) (unit : ℕ → ℕ) (L V W : List Msg) (i : ℕ) (v : Site) (h : Good n unit L (V ++ W) i v) (s : ℕ) (r : Work)
    (er : v.rows s ≡ Some r) (ex : r.committing ≡ false) where
  not_committing : (r' : Work) → v.rows s ≡ Some r' → r'.committing ≡ true → ⊥
  not_committing r' e q = let y : r ≡ r' = cc in both_ways r'.committing (rw y at ex) q

  -- another message of the server is of another row
  other_row : (t : Tx) (m : Mine v.rows t) → m.slot ≢ s
  other_row t m e = not_committing m.row (rw e at m.open_row) m.committing

  unlike_new : (x : Msg) → Owned i v.epoch v.rows x → Unlike i v.epoch (message_of i v r) x
  unlike_new (epoch_change k f) g = tt
  unlike_new (transaction t) g = λ p q a b c d.
      let m = g q b in
      other_row t m (h.local.alone m.slot s m.row r m.open_row er (sym m.client ∙ sym c) (sym m.job ∙ sym d))

  -- and clear of the row
  shy_new : (x : Msg) → Known n (from start L).epoch x → Owned i v.epoch v.rows x → Shy v.epoch r.stmts x
  shy_new (epoch_change k f) kn g = tt
  shy_new (transaction t) kn g = λ e.
      let m = g (kn.1 ∙ ap (primary n) e ∙ sym (h.local.leads s r er).lead) e in
      let S = v.db.cells in
      let a = slot_there unit S (v.rows s) (v.db.slots s) r er (h.local.link s) in
      let b = slot_there unit S (v.rows m.slot) (v.db.slots m.slot) m.row m.open_row (h.local.link m.slot) in
      let ne = other_row t m in
      let c = slots_clear unit S S r m.row a.slot b.slot a.fine b.fine
      (h.local.free s m.slot a.slot b.slot (λ y. ne (sym y)) a.is b.is)
      (h.local.free m.slot s b.slot a.slot ne b.is a.is) in
      rw m.stmts c

  sending_link : (o : Option Slot) → Linked unit v.db.cells (Some r) o → Linked unit v.db.cells (Some (committing_now r)) o
  sending_link None g = g
  sending_link (Some k) g = record { results = g.results; own = g.own; locks = g.locks }

  commit_local : Local n unit i (sent_off v s r)
  commit_local =
      record {
        leads = λ q r' e. record { up = (h.local.leads s r er).up; bar = (h.local.leads s r er).bar; lead = (h.local.leads s r er).lead };
        link = upd_all (λ q o. Linked unit v.db.cells o (v.db.slots q)) v.rows s (Some (committing_now r))
            (sending_link (v.db.slots s) (rw er at (h.local.link s))) (λ j ne. h.local.link j);
        alone = λ q q' r₁ r₁' e e' a₁ b₁.
            elim (upd_view v.rows s (Some (committing_now r)) q (Some r₁) e) [
              | new p z ↦ elim (upd_view v.rows s (Some (committing_now r)) q' (Some r₁') e') [
                | new p' z' ↦ p ∙ sym p'
                | old p' z' ↦ let y : committing_now r ≡ r₁ = cc in p ∙ h.local.alone s q' r r₁' er z' (ap (λ (w : Work). w.client) y ∙ a₁) (ap (λ (w : Work). w.job) y ∙ b₁)
              ]
              | old p z ↦ elim (upd_view v.rows s (Some (committing_now r)) q' (Some r₁') e') [
                | new p' z' ↦ let y : committing_now r ≡ r₁' = cc in h.local.alone q s r₁ r z er (a₁ ∙ sym (ap (λ (w : Work). w.client) y)) (b₁ ∙ sym (ap (λ (w : Work). w.job) y)) ∙ sym p'
                | old p' z' ↦ h.local.alone q q' r₁ r₁' z z' a₁ b₁
              ]
            ];
        few = λ q r' e. let z = h.local.few s r er in elim (upd_view v.rows s (Some (committing_now r)) q (Some r') e) [ new p x ↦ omega arith | old p x ↦ h.local.few q r' x ];
        free = h.local.free;
      }

  commit_good : Good n unit L (V ++ message_of i v r ∷ W) i (sent_off v s r)
  commit_good =
      let m = message_of i v r in
      let D = drop v.delivered L in
      record {
        placed = record { d≤ = h.placed.d≤; m≤ = h.placed.m≤; ep = h.placed.ep; cm = h.placed.cm; cd = h.placed.cd };
        local = commit_local;
        fence = λ u. let e = (h.local.leads s r er).bar in rw e (let g : Fence L (V ++ W) i v.db.mark v.delivered v.epoch None = rw e at (h.fence u) in (g.0, all_offered (Old i v.epoch) m L V W (λ p. omega arith) g.1));
        owned = λ u b. all_offered (Owned i v.epoch (upd v.rows s (Some (committing_now r)))) m D V W
            (λ p q. record { slot = s; row = committing_now r; open_row = upd_same v.rows s (Some (committing_now r)); committing = refl; client = refl; job = refl; stmts = refl })
            (All-weaker (Owned i v.epoch v.rows) (Owned i v.epoch (upd v.rows s (Some (committing_now r))))
            (owned_upd i v.epoch v.rows s (Some (committing_now r)) not_committing) (D ++ (V ++ W)) (h.owned u b));
        unlike = λ u b. pairs_offered (Unlike i v.epoch) (unlike_flip i v.epoch) m D V W
            (All-weaker (Owned i v.epoch v.rows) (Unlike i v.epoch m) unlike_new (D ++ (V ++ W)) (h.owned u b)) (h.unlike u b);
      }

  -- the row's results are those of a run from the end of the log
  sound_new : All (Known n (from start L).epoch) (drop v.delivered L ++ (V ++ W)) → Sound (from start L).epoch (from start L).cells (message_of i v r)
  sound_new kn = λ e.
      let d = v.delivered in
      let ld = h.local.leads s r er in
      let shy = all_both (Known n (from start L).epoch) (Owned i v.epoch v.rows) (Shy v.epoch r.stmts) shy_new (drop d L ++ (V ++ W)) kn (h.owned ld.up ld.bar) in
      let shyL = all_left (Shy v.epoch r.stmts) (drop d L) (V ++ W) shy in
      let g : Fence L (V ++ W) i v.db.mark d v.epoch None = rw ld.bar at (h.fence ld.up) in
      let cut = cut_at L d in
      let ep = h.placed.ep in
      let same : (from (at L d) (drop d L)).epoch ≡ (at L d).epoch = sym (ap (λ (j : Summary). j.epoch) cut) ∙ sym e ∙ ep in
      let ag = tail_agree r.stmts (at L d) (drop d L) same (rw ep at shyL) in
      let a = slot_there unit v.db.cells (v.rows s) (v.db.slots s) r er (h.local.link s) in
      let here : Agree r.stmts v.db.cells (at L d).cells = all_any (λ b. v.db.cells b.cell ≡ (at L d).cells b.cell) (λ b. h.placed.cd g.0 b.cell) r.stmts in
      a.fine.results ∙ answers_agree r.stmts v.db.cells (at L d).cells here ∙ answers_agree r.stmts (at L d).cells (from (at L d) (drop d L)).cells ag
      ∙ sym (ap (λ (j : Summary). answers r.stmts j.cells) cut)

  -- the row is clear of the waiting messages
  clears_one : (x : Msg) → Shy v.epoch r.stmts x → Clears (from start L).epoch (message_of i v r) x
  clears_one (epoch_change k f) g = tt
  clears_one (transaction t) g = λ p q. g (q ∙ sym p)

  clears_new : All (Known n (from start L).epoch) (drop v.delivered L ++ (V ++ W)) → All (Clears (from start L).epoch (message_of i v r)) (V ++ W)
  clears_new kn =
      let d = v.delivered in
      let ld = h.local.leads s r er in
      let shy = all_both (Known n (from start L).epoch) (Owned i v.epoch v.rows) (Shy v.epoch r.stmts) shy_new (drop d L ++ (V ++ W)) kn (h.owned ld.up ld.bar) in
      All-weaker (Shy v.epoch r.stmts) (Clears (from start L).epoch (message_of i v r)) clears_one (V ++ W) (all_right (Shy v.epoch r.stmts) (drop d L) (V ++ W) shy)

pub commit_keeps : (s : State) (L V W : List Msg) (k i p : ℕ) (r : Work) → (s.servers i).rows p ≡ Some r → r.committing ≡ false →
    length L + length (V ++ W) < s.capacity → Inv (with_messages s L (V ++ W) k) →
    Inv (with_messages (change s i (sent_off (s.servers i) p r)) L (V ++ message_of i (s.servers i) r ∷ W) (k + 1))
commit_keeps s L V W k i p r er ex lt h =
    let n = s.count in
    let v = s.servers i in
    let m = message_of i v r in
    let E = (from start L).epoch in
    let g = h.good i in
    let c = h.count in
    let kn = All-append (Known n E) (drop v.delivered L) (V ++ W) (All-drop (Known n E) v.delivered L (all_left (Known n E) L (V ++ W) h.known))
    (all_right (Known n E) L (V ++ W) h.known) in
    record {
      good = upd_all (λ j w. Good n (s.units j) L (V ++ m ∷ W) j w) s.servers i (sent_off v p r) (commit_good n (s.units i) L V W i v g p r er ex)
          (λ j ne. good_alien n (s.units j) L V W m j (s.servers j) (other_alien j (sent_tx i v r) (λ e. ne (sym e))) (h.good j));
      known = all_offered (Known n E) m L V W (epoch_known L v g.placed, (g.local.leads p r er).lead) h.known;
      right = h.right;
      sound = all_in (Sound E (from start L).cells) m V W (sound_new n (s.units i) L V W i v g p r er ex kn) h.sound;
      clears = pairs_in (Clears E) (clears_flip E) m V W (clears_new n (s.units i) L V W i v g p r er ex kn) h.clears;
      count = simp length-append (omega (arith, simp length-append at c));
      room = simp length-append (omega (arith, simp length-append at lt));
      small = h.small;
      enough = h.enough;
    }
