-- Ordering a message keeps the invariant: what waited is sound, so it is right where it is committed, and what waits on is clear of it.
use Rattle.std.proofs.Common.{◌≡◌, ℕ, List, [], ◌∷◌, ◌++◌, drop, Some, None, Option, sym, ◌∙◌, arith}
use Rattle.std.specs.List.{AllByRecursion as All}
use Rattle.std.proofs.lemmas.List.{drop-append-le, length-append}
use Rattle.std.proofs.ByRecursion.{All-weaker}
use Rattle.message.specs.Messages.{Msg, epoch_change, transaction}
use Rattle.journal.specs.Judging.{Summary, next, start, from, at}
use Rattle.journal.proofs.Fronts.{at_old, from_push, next_epoch, sees, is_accepted, is_stale, is_committed, is_late, is_again}
use Rattle.pronto.specs.Servers.{Site}
use Rattle.pronto.specs.States.{State, with_messages}
use Rattle.pronto.proofs.Clear.{clear_sym, answers_clear}
use Rattle.pronto.proofs.Everywhere.{Pairs, all_out, all_right, all_moved, all_withdrawn, pairs_moved, pairs_out}
use Rattle.pronto.proofs.Invariant.{Old, Owned, Unlike, Placed, Fence, Good, Known, Sound, Clears, RightAt, Right, Inv}

pub unlike_flip : (i e : ℕ) (x y : Msg) → Unlike i e x y → Unlike i e y x
unlike_flip i e (epoch_change k f) (epoch_change k' f') h = tt
unlike_flip i e (epoch_change k f) (transaction b) h = tt
unlike_flip i e (transaction a) (epoch_change k f) h = tt
unlike_flip i e (transaction a) (transaction b) h = λ p q r s u v. h q p s r (sym u) (sym v)

pub clears_flip : (e : ℕ) (x y : Msg) → Clears e x y → Clears e y x
clears_flip e (epoch_change k f) (epoch_change k' f') h = tt
clears_flip e (epoch_change k f) (transaction b) h = tt
clears_flip e (transaction a) (epoch_change k f) h = tt
clears_flip e (transaction a) (transaction b) h = λ p q. clear_sym a.stmts b.stmts (h q p)

placed_order : (L : List Msg) (m : Msg) (v : Site) → Placed L v → Placed (L ++ m ∷ []) v
placed_order L m v h =
    let d = h.d≤ in
    let k = h.m≤ in
    record {
      d≤ = simp length-append (omega arith);
      m≤ = simp length-append (omega arith);
      ep = rw (at_old L m v.delivered d) h.ep;
      cm = λ c. rw (at_old L m v.db.mark k) (h.cm c);
      cd = λ p c. rw (at_old L m v.delivered d) (h.cd p c);
    }

fence_order : (L V W : List Msg) (m : Msg) (i q d e : ℕ) (b : Option ℕ) → Fence L (V ++ m ∷ W) i q d e b → Fence (L ++ m ∷ []) (V ++ W) i q d e b
fence_order L V W m i q d e None h = (h.0, all_moved (Old i e) m L V W h.1)
fence_order L V W m i q d e (Some b) h =
    let k = h.0 in
    (simp length-append (omega arith), h.1, rw (at_old L m b k) (all_moved (Old i (at L b).epoch) m L V W h.2))

good_order : (n : ℕ) (unit : ℕ → ℕ) (L V W : List Msg) (m : Msg) (i : ℕ) (v : Site) → Good n unit L (V ++ m ∷ W) i v → Good n unit (L ++ m ∷ []) (V ++ W) i v
good_order n unit L V W m i v h =
    let e : drop v.delivered (L ++ m ∷ []) ≡ drop v.delivered L ++ m ∷ [] = drop-append-le v.delivered L (m ∷ []) h.placed.d≤ in
    record {
      placed = placed_order L m v h.placed;
      local = h.local;
      fence = λ r. fence_order L V W m i v.db.mark v.delivered v.epoch v.bar (h.fence r);
      owned = λ r b. rw e (all_moved (Owned i v.epoch v.rows) m (drop v.delivered L) V W (h.owned r b));
      unlike = λ r b. rw e (pairs_moved (Unlike i v.epoch) (unlike_flip i v.epoch) m (drop v.delivered L) V W (h.unlike r b));
    }

right_push : (j : Summary) (l : List Msg) (m : Msg) → Right j l → RightAt (from j l) m → Right j (l ++ m ∷ [])
right_push j [] m h k = (k, tt)
right_push j (x ∷ l) m h k = (h.0, right_push (next j x) l m h.1 k)

known_next : (n : ℕ) (j : Summary) (m : Msg) (x : Msg) → Known n j.epoch x → Known n (next j m).epoch x
known_next n j m (epoch_change i f) h = let a = next_epoch j m in omega arith
known_next n j m (transaction t) h = let a = next_epoch j m in (omega arith, h.1)

-- the message ordered was sound, so it is right where it is committed
sound_right : (j : Summary) (m : Msg) → Sound j.epoch j.cells m → RightAt j m
sound_right j (epoch_change i f) h = tt
sound_right j (transaction t) h = λ c. elim (sees j (transaction t)) [
  | is_accepted i e g ↦ cc
  | is_stale i e f g ↦ cc
  | is_committed x e f g ↦ h (cc)
  | is_late x e f g ↦ cc
  | is_again x p e f g ↦ h (cc)
]

-- another waiting message stays sound
sound_next : (n : ℕ) (j : Summary) (m : Msg) (x : Msg) → Known n j.epoch x → Clears j.epoch m x → Sound j.epoch j.cells x →
    Sound (next j m).epoch (next j m).cells x
sound_next n j m (epoch_change i f) k c h = tt
sound_next n j m (transaction t) k c h = elim (sees j m) [
  | is_accepted i e g ↦ rw g (λ q. absurd (omega (arith, k.0, q)))
  | is_stale i e f g ↦ rw g h
  | is_committed x e f g ↦
      rw (g, e) (λ q. h q ∙ sym (answers_clear t.stmts x.stmts j.cells (clear_sym x.stmts t.stmts ((rw e at c) f q))))
  | is_late x e f g ↦ rw g h
  | is_again x p e f g ↦ rw g h
]

clears_next : (n : ℕ) (j : Summary) (m : Msg) (x y : Msg) → Known n j.epoch x → Clears j.epoch x y → Clears (next j m).epoch x y
clears_next n j m (epoch_change i f) y k c = tt
clears_next n j m (transaction a) (epoch_change i f) k c = tt
clears_next n j m (transaction a) (transaction b) k c = elim (sees j m) [
  | is_accepted i e g ↦ rw g (λ q r. absurd (omega (arith, k.0, q)))
  | is_stale i e f g ↦ rw g c
  | is_committed x e f g ↦ rw (g, e) c
  | is_late x e f g ↦ rw g c
  | is_again x p e f g ↦ rw g c
]

all_sound_next : (n : ℕ) (j : Summary) (m : Msg) (l : List Msg) → All (Known n j.epoch) l → All (Clears j.epoch m) l → All (Sound j.epoch j.cells) l →
    All (Sound (next j m).epoch (next j m).cells) l
all_sound_next n j m [] k c h = tt
all_sound_next n j m (x ∷ l) k c h = (sound_next n j m x k.0 c.0 h.0, all_sound_next n j m l k.1 c.1 h.1)

all_clear_next : (n : ℕ) (j : Summary) (m : Msg) (l : List Msg) → All (Known n j.epoch) l → Pairs (Clears j.epoch) l → Pairs (Clears (next j m).epoch) l
all_clear_next n j m [] k c = tt
all_clear_next n j m (x ∷ l) k c =
    (All-weaker (Clears j.epoch x) (Clears (next j m).epoch x) (λ y g. clears_next n j m x y k.0 g) l c.0, all_clear_next n j m l k.1 c.1)

pub order_keeps : (s : State) (L V W : List Msg) (m : Msg) (k : ℕ) → Inv (with_messages s L (V ++ m ∷ W) k) → Inv (with_messages s (L ++ m ∷ []) (V ++ W) k)
order_keeps s L V W m k h =
    let n = s.count in
    let j = from start L in
    let e : from start (L ++ m ∷ []) ≡ next j m = from_push start L m in
    let kw = all_withdrawn (Known n j.epoch) m L V W h.known in
    let sw = all_out (Sound j.epoch j.cells) m V W h.sound in
    let cw = pairs_out (Clears j.epoch) (clears_flip j.epoch) m V W h.clears in
    let kv = all_right (Known n j.epoch) L (V ++ W) kw.1 in
    let c = h.count in
    let r = h.room in
    record {
      good = λ i. good_order n (s.units i) L V W m i (s.servers i) (h.good i);
      known = rw e (All-weaker (Known n j.epoch) (Known n (next j m).epoch) (known_next n j m) ((L ++ m ∷ []) ++ (V ++ W)) (all_moved (Known n j.epoch) m L V W h.known));
      right = right_push start L m h.right (sound_right j m sw.0);
      sound = rw e (all_sound_next n j m (V ++ W) kv cw.0 sw.1);
      clears = rw e (all_clear_next n j m (V ++ W) kv cw.1);
      count = simp length-append (omega (arith, simp length-append at c));
      room = simp length-append (omega (arith, simp length-append at r));
      small = h.small;
      enough = h.enough;
    }
