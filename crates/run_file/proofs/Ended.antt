-- Lines that are each ended by byte 10: a text has them in one way only.
use Rattle.std.proofs.Common.{◌≡◌, ℕ, ◌<◌, List, [], ◌∷◌, ◌++◌, length, sym, refl, ap, ◌∙◌, arith}
use Rattle.lexing.specs.Parts.{parts, joined, Free, AllFree}
use Rattle.lexing.proofs.Cuts.{parts_cut, joined_parts}
use Rattle.lexing.proofs.Heads.{head_same, tail_same}
use Rattle.run_file.specs.Form.{ended}

abbrev pub Lines : Type 0
Lines = List (List ℕ)

pub head_is : {l m : List ℕ} {ls ms : Lines} → l ∷ ls ≡ m ∷ ms → l ≡ m
head_is e = cc

pub tail_is : {l m : List ℕ} {ls ms : Lines} → l ∷ ls ≡ m ∷ ms → ls ≡ ms
tail_is e = cc

-- the first line, and what comes after it
pub line_same : {l m r q : List ℕ} → Free 10 l → Free 10 m → l ++ (10 ∷ r) ≡ m ++ (10 ∷ q) → (l ≡ m) × (r ≡ q)
line_same {l} {m} {r} {q} f g e =
    let a = parts_cut 10 l r f in
    let b = ap (parts 10) e ∙ parts_cut 10 m q g in
    let ps : parts 10 r ≡ parts 10 q = tail_same a b in
    (head_same a b, sym (joined_parts 10 r) ∙ ap (joined 10) ps ∙ joined_parts 10 q)

pub ended_append : (ls ms : Lines) (rest : List ℕ) → ended (ls ++ ms) rest ≡ ended ls (ended ms rest)
ended_append [] ms rest = refl
ended_append (l ∷ ls) ms rest = ap (λ (t : List ℕ). l ++ (10 ∷ t)) (ended_append ls ms rest)

pub free_append : (b : ℕ) (ls ms : Lines) → AllFree b ls → AllFree b ms → AllFree b (ls ++ ms)
free_append b [] ms f g = g
free_append b (l ∷ ls) ms f g = (f.0, free_append b ls ms f.1 g)

-- ms has more lines than ls
pub record More (ls ms : Lines) (r q : List ℕ) : Type 0 where
  pub line : List ℕ
  pub lines : Lines
  pub is : ms ≡ ls ++ line ∷ lines
  pub rest : r ≡ line ++ (10 ∷ ended lines q)

pub longer : (ls ms : Lines) {r q : List ℕ} → AllFree 10 ls → AllFree 10 ms → ended ls r ≡ ended ms q → length ls < length ms → More ls ms r q
longer [] [] f g e h = absurd (omega arith)
longer [] (m ∷ ms) f g e h = record { line = m; lines = ms; is = refl; rest = e }
longer (l ∷ ls) [] f g e h = absurd (omega arith)
longer (l ∷ ls) (m ∷ ms) {r} {q} f g e h =
    let s : (l ≡ m) × (ended ls r ≡ ended ms q) = line_same f.0 g.0 e in
    let x = longer ls ms f.1 g.1 s.1 (omega arith) in
    record { line = x.line; lines = x.lines; is = (λ i. sym s.0 i ∷ x.is i); rest = x.rest }

pub same_lines : (ls ms : Lines) {r q : List ℕ} → AllFree 10 ls → AllFree 10 ms → ended ls r ≡ ended ms q → length ls ≡ length ms → (ls ≡ ms) × (r ≡ q)
same_lines [] [] f g e h = (refl, e)
same_lines [] (m ∷ ms) f g e h = absurd (omega arith)
same_lines (l ∷ ls) [] f g e h = absurd (omega arith)
same_lines (l ∷ ls) (m ∷ ms) {r} {q} f g e h =
    let s : (l ≡ m) × (ended ls r ≡ ended ms q) = line_same f.0 g.0 e in
    let x = same_lines ls ms f.1 g.1 s.1 (omega arith) in
    ((λ i. s.0 i ∷ x.0 i), x.1)

-- two ways to part one list
pub record Sooner (bs hs xs ys : Lines) : Type 0 where
  pub line : List ℕ
  pub lines : Lines
  pub is : hs ≡ bs ++ line ∷ lines
  pub rest : ys ≡ line ∷ (lines ++ xs)

pub parted_sooner : (hs bs xs ys : Lines) → hs ++ xs ≡ bs ++ ys → length bs < length hs → Sooner bs hs xs ys
parted_sooner [] bs xs ys e h = absurd (omega arith)
parted_sooner (a ∷ hs) [] xs ys e h = record { line = a; lines = hs; is = refl; rest = sym e }
parted_sooner (a ∷ hs) (b ∷ bs) xs ys e h =
    let x = parted_sooner hs bs xs ys (tail_is e) (omega arith) in
    record { line = x.line; lines = x.lines; is = (λ i. head_is e i ∷ x.is i); rest = x.rest }

pub parted_same : (hs bs xs ys : Lines) → hs ++ xs ≡ bs ++ ys → length hs ≡ length bs → (hs ≡ bs) × (xs ≡ ys)
parted_same [] [] xs ys e h = (refl, e)
parted_same [] (b ∷ bs) xs ys e h = absurd (omega arith)
parted_same (a ∷ hs) [] xs ys e h = absurd (omega arith)
parted_same (a ∷ hs) (b ∷ bs) xs ys e h =
    let x = parted_same hs bs xs ys (tail_is e) (omega arith) in
    ((λ i. head_is e i ∷ x.0 i), x.1)
