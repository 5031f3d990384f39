-- How a text in a buffer grows.
use Rattle.std.proofs.Common.{◌≡◌, ℕ, ◌+◌, ◌<◌, List, [], ◌∷◌, ◌++◌, length, take, drop, set, sym, refl, ap, ◌∙◌, subst, append_assoc, arith, length-append, length-drop, take-append-drop, length-take-le, take_at}
use Rattle.std.proofs.lemmas.List.{take-set, drop-set}
use Rattle.std.proofs.lemmas.Slice.{drop-append-drop}
use Rattle.stepping.specs.declared.putting.LineWriter.{LineWriter}
use Rattle.stepping.specs.Buffers.{Filled, Adds, Wrote}

-- what a write of one byte leaves
pub byte_written : (old : List ℕ) (at b : ℕ) → at < length old → Adds old at (b ∷ []) (set old at b) (at + 1)
byte_written old at b h = record {
  end = refl;
  within = omega arith;
  holds = sym (take-append-drop at (set old at b)) ∙ (λ i. take-set old at b i ++ drop-set old at b h i) ∙ sym (append_assoc (take at old) (b ∷ []) _);
}

-- the front of a buffer, up to the end of a text in it
front_length : {old : List ℕ} {at : ℕ} {text new : List ℕ} {n : ℕ} → Adds old at text new n → length (take at old ++ text) ≡ n
front_length {old} {at} {text} {new} {n} a = omega (arith, length-append (take at old) text, length-take-le at old (omega (arith, a.end, a.within)), a.end)

pub same_length : {old : List ℕ} {at : ℕ} {text new : List ℕ} {n : ℕ} → Adds old at text new n → length new ≡ length old
same_length {old} {at} {text} {new} {n} a = omega (arith, ap length a.holds, length-append (take at old ++ text) (drop n old), front_length a, length-drop n old, a.within)

-- one text after another
pub both : {old : List ℕ} {at : ℕ} {s mid : List ℕ} {k : ℕ} {t new : List ℕ} {n : ℕ} → Adds old at s mid k → Adds mid k t new n → Adds old at (s ++ t) new n
both {old} {at} {s} {mid} {k} {t} {new} {n} a b =
    let long = front_length a in
    let front : take k mid ≡ take at old ++ s = ap (take k) a.holds ∙ take_at (take at old ++ s) (drop k old) k long in
    let back : drop n mid ≡ drop n old = ap (drop n) a.holds ∙ drop-append-drop k old (take at old ++ s) n (omega (arith, b.end)) long in
    record {
      end = omega (arith, a.end, b.end, length-append s t);
      within = omega (arith, b.within, same_length a);
      holds = b.holds ∙ (λ i. front i ++ t ++ back i) ∙ ap (λ l. l ++ drop n old) (append_assoc (take at old) s t);
    }

-- from the start of the buffer
pub filled : {old : List ℕ} {text new : List ℕ} {n : ℕ} → Adds old 0 text new n → Filled old new n text
filled a = (omega (arith, a.end), a.holds)

-- one text after another from a writer
pub then_wrote : {u v w : LineWriter} {s t : List ℕ} → Wrote u s v → Wrote v t w → Wrote u (s ++ t) w
then_wrote a b = record {
  adds = both a.adds b.adds;
  same_length = b.same_length ∙ a.same_length;
  same_reference = b.same_reference ∙ a.same_reference;
}

pub wrote_same : {u w : LineWriter} {s t : List ℕ} → s ≡ t → Wrote u s w → Wrote u t w
wrote_same {u} {w} {s} {t} e a = subst (λ l. Wrote u l w) e a

-- from the start of the buffer
pub wrote_all :
    {u w : LineWriter} {old new text : List ℕ} {n : ℕ} → u.line.now ≡ old → u.at ≡ 0 → new ≡ w.line.now → n ≡ w.at → Wrote u text w →
    Filled old new n text
wrote_all {u} {w} {old} {new} {text} {n} e z f k a =
    let P : List ℕ → ℕ → Type 0 = λ l at. Adds l at text w.line.now w.at in
    let Q : List ℕ → ℕ → Type 0 = λ l m. Filled old l m text in
    subst (λ l. Q l n) (sym f) (subst (λ m. Q w.line.now m) (sym k) (filled (subst (λ at. P old at) z (subst (λ l. P l u.at) e a.adds))))
