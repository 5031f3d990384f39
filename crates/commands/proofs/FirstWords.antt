-- The opening words: letters only, and no two the same.
use Rattle.std.proofs.Common.{◌≡◌, ℕ, ◌+◌, ◌*◌, ◌<◌, ◌≤◌, Bool, true, cond, ◌&&◌, eqb, leb, List, [], ◌∷◌, get_or, sym, refl, ap, ◌∙◌, arith, leb-true}
use Rattle.std.proofs.lemmas.Bool.{and_parts}
use Rattle.lexing.specs.Forms as forms
use Rattle.lexing.specs.Parts.{Free}
use Rattle.lexing.proofs.Digits.{no_letter}
use Rattle.commands.specs.declared.openings.ServerVerb.TheVariants.{Suspect, Deliver, Stop, Start}
use Rattle.commands.specs.declared.openings.JobVerb.TheVariants.{Begin, Commit, Abort}
use Rattle.commands.specs.declared.openings.ReadVerb.TheVariants.{Get, Heads}
use Rattle.commands.specs.declared.openings.StoreVerb.TheVariants.{Set, Add, Take}
use Rattle.commands.specs.declared.openings.MemberVerb.TheVariants.{Join, Leave}
use Rattle.commands.specs.declared.openings.Opening.{Opening}
use Rattle.commands.specs.declared.openings.Opening.TheVariants.{Order, Cell, Server, Job, Read, Store, Member}
use Rattle.commands.specs.Words.{opening_text}

-- what holds of each of the sixteen
pub each : (P : Opening → Type 0) → P Order → P Cell → P (Server Suspect) → P (Server Deliver) → P (Server Stop) → P (Server Start) → P (Job Begin) → P (Job Commit) → P (Job Abort) → P (Read Get) → P (Read Heads) → P (Store Set) → P (Store Add) → P (Store Take) → P (Member Join) → P (Member Leave) → (o : Opening) → P o
each P a b c d e f g h i j k l m n p q Order = a
each P a b c d e f g h i j k l m n p q Cell = b
each P a b c d e f g h i j k l m n p q (Server Suspect) = c
each P a b c d e f g h i j k l m n p q (Server Deliver) = d
each P a b c d e f g h i j k l m n p q (Server Stop) = e
each P a b c d e f g h i j k l m n p q (Server Start) = f
each P a b c d e f g h i j k l m n p q (Job Begin) = g
each P a b c d e f g h i j k l m n p q (Job Commit) = h
each P a b c d e f g h i j k l m n p q (Job Abort) = i
each P a b c d e f g h i j k l m n p q (Read Get) = j
each P a b c d e f g h i j k l m n p q (Read Heads) = k
each P a b c d e f g h i j k l m n p q (Store Set) = l
each P a b c d e f g h i j k l m n p q (Store Add) = m
each P a b c d e f g h i j k l m n p q (Store Take) = n
each P a b c d e f g h i j k l m n p q (Member Join) = p
each P a b c d e f g h i j k l m n p q (Member Leave) = q

-- the first three letters tell the openings apart
abbrev mark : List ℕ → ℕ
mark bs = get_or bs 0 0 * 65536 + get_or bs 1 0 * 256 + get_or bs 2 0

abbrev among : List Opening → ℕ → Opening
among [] m = Order
among (o ∷ os) m = cond (eqb (mark (opening_text o)) m) o (among os m)

abbrev all : List Opening
all = Order ∷ Cell ∷ Server Suspect ∷ Server Deliver ∷ Server Stop ∷ Server Start ∷ Job Begin ∷ Job Commit ∷ Job Abort ∷ Read Get ∷ Read Heads ∷ Store Set ∷ Store Add ∷ Store Take ∷ Member Join ∷ Member Leave ∷ []

told : (o : Opening) → among all (mark (opening_text o)) ≡ o
told = each (λ o. among all (mark (opening_text o)) ≡ o) refl refl refl refl refl refl refl refl refl refl refl refl refl refl refl refl

pub same_opening : (o p : Opening) → opening_text o ≡ opening_text p → o ≡ p
same_opening o p e = sym (told o) ∙ ap (λ (t : List ℕ). among all (mark t)) e ∙ told p

abbrev letters : List ℕ → Bool
letters [] = true
letters (b ∷ bs) = leb 97 b && letters bs

spelt : (o : Opening) → letters (opening_text o) ≡ true
spelt = each (λ o. letters (opening_text o) ≡ true) refl refl refl refl refl refl refl refl refl refl refl refl refl refl refl refl

letters_free : (b : ℕ) → b < 97 → (bs : List ℕ) → letters bs ≡ true → Free b bs
letters_free b low [] h = tt
letters_free b low (x ∷ bs) h =
    let p = and_parts (leb 97 x) (letters bs) h in
    let q : 97 ≤ x = leb-true 97 x p.0 in
    (λ e. omega arith, letters_free b low bs p.1)

pub opening_free : (b : ℕ) → b < 97 → (o : Opening) → Free b (opening_text o)
opening_free b low o = letters_free b low (opening_text o) (spelt o)

first_letter : (o : Opening) → leb 97 (get_or (opening_text o) 0 0) ≡ true
first_letter = each (λ o. leb 97 (get_or (opening_text o) 0 0) ≡ true) refl refl refl refl refl refl refl refl refl refl refl refl refl refl refl refl

-- an opening writes no number
pub opening_word : (o : Opening) → forms.Word (opening_text o)
opening_word o n w = no_letter n (opening_text o) w (leb-true 97 _ (first_letter o))
