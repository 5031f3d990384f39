-- A line that is a head has two words: the section's, and the count's.
use Rattle.std.proofs.Common.{◌≡◌, ℕ, Bool, true, false, List, [], ◌∷◌, MatchOption, Decides, decimal, sym, refl, ap, ◌∙◌, arith, rules}
use Rattle.std.specs.Bool.{then_some}
use Rattle.std.proofs.lemmas.Bool.{false≢true}
use Rattle.lexing.specs.Parts.{parts, joined}
use Rattle.lexing.proofs.Cuts.{joined_parts}
use Rattle.lexing.proofs.Digits.{only_one}
use Rattle.lexing.proofs.Heads.{head_same, tail_same}
use Rattle.run_file.specs.Form.{section_text, head, Counts}
use Rattle.run_file.specs.declared.sections.Section.{Section}
use Rattle.run_file.proofs.Fronts.{section_word, counts_small, head_parts}
use Rattle.run_file.proofs.sections.Section.count.Goals as goal

two_words :
    (s : Section) (n : ℕ) {line : List ℕ} {was : List (List ℕ)} → was ≡ parts 32 line → Counts s n → line ≡ head s n →
    was ≡ section_text s ∷ decimal n ∷ []
two_words s n w h e = w ∙ ap (parts 32) e ∙ head_parts s n h

pub returns-in_err-word : goal.returns-in_err-word
returns-in_err-word c = rw c.from_residual.ensures (λ n h e.
    let s = c.args.self.now in
    c.in_err-word.ensures.takes (section_text s) _ (section_word s) (two_words s n c.new-words.ensures.words h e))

pub returns-in_err-count : goal.returns-in_err-count
returns-in_err-count c = rw c.from_residual-in_err-count.ensures (λ n h e.
    let s = c.args.self.now in
    c.in_err-count.ensures.takes n _ (counts_small s n h, omega (arith, h.1, c.most.ensures))
    (tail_same c.in_ok-word.ensures.takes.1 (two_words s n c.new-words.ensures.words h e)))

pub returns-then-count-least : goal.returns-then-count-least
returns-then-count-least c n h e =
    let s = c.args.self.now in
    let told = c.in_ok-count.ensures.takes in
    let further = tail_same c.in_ok-word.ensures.takes.1 (two_words s n c.new-words.ensures.words h e) in
    let same : decimal c.in_ok-count.count ≡ decimal n = head_same told.1 further in
    omega (arith, only_one c.in_ok-count.count n told.0.0 (counts_small s n h) same, h.0, c.least.ensures, c.if-count-least.true)

-- a head, where no word is left
only_head :
    (s : Section) (line word : List ℕ) (count : ℕ) (done : Bool) {was rest is : List (List ℕ)} → was ≡ parts 32 line → was ≡ word ∷ rest →
    word ≡ section_text s → rest ≡ decimal count ∷ is → Counts s count → Decides done (is ≡ []) →
    MatchOption (then_some done count) ((n : ℕ) → Counts s n → line ≡ head s n → ⊥) (λ n. Counts s n × (line ≡ head s n))
only_head s line word count true w a b d good e =
    let all : parts 32 line ≡ section_text s ∷ decimal count ∷ [] =
    sym w ∙ a ∙ (λ i. b i ∷ (d ∙ ap (λ (ws : List (List ℕ)). decimal count ∷ ws) (e.0 refl)) i) in
    (good, sym (joined_parts 32 line) ∙ ap (joined 32) all)
only_head s line word count false w a b d good e = λ n h f. false≢true (e.1 (tail_same d (tail_same a (two_words s n w h f))))

pub returns : goal.returns
returns c =
    let s = c.args.self.now in
    let told = c.in_ok-count.ensures.takes in
    rw c.then_some.ensures
    (only_head s c.args.line.now c.in_ok-word.field-0.now c.in_ok-count.count _ c.new-words.ensures.words
    c.in_ok-word.ensures.takes.1 (c.opens_with.ensures.0 c.if-not-opens_with.false) told.1
    (omega (arith, c.if-count-least.false, c.least.ensures), omega (arith, told.0.1, c.most.ensures)) (search rules))
