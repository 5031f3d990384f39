-- What a list of messages has at each position, and a message put at the end of a bag.
use Rattle.std.proofs.Common.{◌≡◌, ℕ, zero, suc, ◌<◌, ◌≤◌, List, [], ◌∷◌, ◌++◌, map, length, get_or, set, replicate, ◌≢◌, Some, None, sym, refl, ap, append-nil, arith}
use Rattle.message.specs.Messages.{Msg}
use Rattle.broadcast.specs.Bags.{nth, Inserted}

-- a position within the list has what is read there
pub nth_within : {X Y : Type 0} (f : X → Y) (xs : List X) (p : ℕ) (x : X) → p < length xs → x ≡ get_or xs p x → Some (f x) ≡ nth (map f xs) p
nth_within f [] p x h e = absurd (omega arith)
nth_within f (y ∷ ys) zero x h e = ap (λ z. Some (f z)) e
nth_within f (y ∷ ys) (suc p) x h e = nth_within f ys p x (omega arith) e

-- a position past the list has nothing
pub nth_past : {Y : Type 0} (ys : List Y) (p : ℕ) → length ys ≤ p → None ≡ nth ys p
nth_past [] p h = refl
nth_past (y ∷ ys) zero h = absurd (omega arith)
nth_past (y ∷ ys) (suc p) h = nth_past ys p (omega arith)

-- where something stands, and where nothing does
pub nth_none : {X : Type 0} (l : List X) (k : ℕ) → nth l k ≡ None → length l ≤ k
nth_none [] k e = omega arith
nth_none (x ∷ l) zero e = let z : ◌≡◌ {A = ℕ} 0 1 = cc in absurd (omega arith)
nth_none (x ∷ l) (suc k) e = let h = nth_none l k e in omega arith

pub nth_some : {X : Type 0} (l : List X) (k : ℕ) (x : X) → nth l k ≡ Some x → k < length l
nth_some [] k x e = let z : ◌≡◌ {A = ℕ} 0 1 = cc in absurd (omega arith)
nth_some (y ∷ l) zero x e = omega arith
nth_some (y ∷ l) (suc k) x e = let h = nth_some l k x e in omega arith

pub nth_is : {X : Type 0} (l : List X) (k : ℕ) (d : X) → k < length l → nth l k ≡ Some (get_or l k d)
nth_is [] k d h = absurd (omega arith)
nth_is (y ∷ l) zero d h = refl
nth_is (y ∷ l) (suc k) d h = nth_is l k d (omega arith)

-- a position of a list with one element replaced
pub nth_set_same : {X : Type 0} (l : List X) (k : ℕ) (x : X) → k < length l → nth (set l k x) k ≡ Some x
nth_set_same [] k x h = absurd (omega arith)
nth_set_same (y ∷ l) zero x h = refl
nth_set_same (y ∷ l) (suc k) x h = nth_set_same l k x (omega arith)

pub nth_set_other : {X : Type 0} (l : List X) (k j : ℕ) (x : X) → j ≢ k → nth (set l k x) j ≡ nth l j
nth_set_other [] k j x n = refl
nth_set_other (y ∷ l) zero zero x n = absurd (n refl)
nth_set_other (y ∷ l) zero (suc j) x n = refl
nth_set_other (y ∷ l) (suc k) zero x n = refl
nth_set_other (y ∷ l) (suc k) (suc j) x n = nth_set_other l k j x (λ e. n (ap suc e))

-- a position of a list of one element many times
pub nth_replicate : {X : Type 0} (n k : ℕ) (x : X) → k < n → nth (replicate n x) k ≡ Some x
nth_replicate zero k x h = absurd (omega arith)
nth_replicate (suc n) zero x h = refl
nth_replicate (suc n) (suc k) x h = nth_replicate n k x (omega arith)

-- what is put at the end is put in
pub inserted_last : (m : Msg) (bag bag' : List Msg) → bag' ≡ bag ++ m ∷ [] → Inserted m bag bag'
inserted_last m bag bag' e = record { front = bag; back = []; old = sym (append-nil bag); new = e }
