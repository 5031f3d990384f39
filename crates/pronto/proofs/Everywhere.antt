-- What holds of each element of a list, and of each two, when an element is put in, taken out or moved. Assumes nothing.
use Rattle.std.proofs.Common.{List, [], ◌∷◌, ◌++◌}
use Rattle.std.specs.List.{AllByRecursion as All}
use Rattle.std.proofs.lemmas.List.{append_assoc}
use Rattle.std.proofs.ByRecursion.{All-append}

module _ {A : Type 0} (P : A → Type 0) where
  pub all_in : (x : A) (X Y : List A) → P x → All P (X ++ Y) → All P (X ++ x ∷ Y)
  all_in x [] Y p h = (p, h)
  all_in x (y ∷ X) Y p h = (h.0, all_in x X Y p h.1)

  pub all_out : (x : A) (X Y : List A) → All P (X ++ x ∷ Y) → P x × All P (X ++ Y)
  all_out x [] Y h = (h.0, h.1)
  all_out x (y ∷ X) Y h = let r = all_out x X Y h.1 in (r.0, (h.0, r.1))

  pub all_left : (X Y : List A) → All P (X ++ Y) → All P X
  all_left [] Y h = tt
  all_left (y ∷ X) Y h = (h.0, all_left X Y h.1)

  pub all_right : (X Y : List A) → All P (X ++ Y) → All P Y
  all_right [] Y h = h
  all_right (y ∷ X) Y h = all_right X Y h.1

  pub all_any : ((x : A) → P x) → (l : List A) → All P l
  all_any f [] = tt
  all_any f (x ∷ l) = (f x, all_any f l)

  -- an element put into the second part
  pub all_offered : (x : A) (X V W : List A) → P x → All P (X ++ (V ++ W)) → All P (X ++ (V ++ x ∷ W))
  all_offered x X V W p h = All-append P X (V ++ x ∷ W) (all_left X (V ++ W) h) (all_in x V W p (all_right X (V ++ W) h))

  pub all_withdrawn : (x : A) (X V W : List A) → All P (X ++ (V ++ x ∷ W)) → P x × All P (X ++ (V ++ W))
  all_withdrawn x X V W h =
      let r = all_out x V W (all_right X (V ++ x ∷ W) h) in
      (r.0, All-append P X (V ++ W) (all_left X (V ++ x ∷ W) h) r.1)

  -- an element moved from the second part to the end of the first
  pub all_moved : (x : A) (X V W : List A) → All P (X ++ (V ++ x ∷ W)) → All P ((X ++ x ∷ []) ++ (V ++ W))
  all_moved x X V W h =
      let r = all_withdrawn x X V W h in
      rw (append_assoc X (x ∷ []) (V ++ W)) (all_in x X (V ++ W) r.0 r.1)

pub all_both : {A : Type 0} (P Q R : A → Type 0) → ((x : A) → P x → Q x → R x) → (l : List A) → All P l → All Q l → All R l
all_both P Q R f [] a b = tt
all_both P Q R f (x ∷ l) a b = (f x a.0 b.0, all_both P Q R f l a.1 b.1)

-- each element with each later one
abbrev pub Pairs : {A : Type 0} → (A → A → Type 0) → List A → Type 0
Pairs R [] = Unit {0}
Pairs R (x ∷ xs) = All (R x) xs × Pairs R xs

module _ {A : Type 0} (R : A → A → Type 0) (flip : (x y : A) → R x y → R y x) where
  pub pairs_in : (x : A) (X Y : List A) → All (R x) (X ++ Y) → Pairs R (X ++ Y) → Pairs R (X ++ x ∷ Y)
  pairs_in x [] Y h k = (h, k)
  pairs_in x (y ∷ X) Y h k = (all_in (R y) x X Y (flip x y h.0) k.0, pairs_in x X Y h.1 k.1)

  pub pairs_out : (x : A) (X Y : List A) → Pairs R (X ++ x ∷ Y) → All (R x) (X ++ Y) × Pairs R (X ++ Y)
  pairs_out x [] Y h = (h.0, h.1)
  pairs_out x (y ∷ X) Y h =
      let r = pairs_out x X Y h.1 in
      let q = all_out (R y) x X Y h.0 in
      ((flip y x q.0, r.0), (q.1, r.1))

  pub pairs_offered : (x : A) (X V W : List A) → All (R x) (X ++ (V ++ W)) → Pairs R (X ++ (V ++ W)) → Pairs R (X ++ (V ++ x ∷ W))
  pairs_offered x X V W h k =
      rw (← append_assoc X V (x ∷ W))
      (pairs_in x (X ++ V) W (rw (append_assoc X V W) h) (rw (append_assoc X V W) k))

  pub pairs_moved : (x : A) (X V W : List A) → Pairs R (X ++ (V ++ x ∷ W)) → Pairs R ((X ++ x ∷ []) ++ (V ++ W))
  pairs_moved x X V W h =
      let r = pairs_out x (X ++ V) W (rw (append_assoc X V (x ∷ W)) h) in
      rw (append_assoc X (x ∷ []) (V ++ W))
      (pairs_in x X (V ++ W) (rw (append_assoc X V W) at r.0) (rw (append_assoc X V W) at r.1))
