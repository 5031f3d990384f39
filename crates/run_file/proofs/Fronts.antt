-- Which line may come after a right front; where none does, the front is the longest.
use Rattle.std.proofs.Common.{◌≡◌, ℕ, suc, ◌^◌, ◌<◌, ◌⊎◌, List, [], ◌∷◌, ◌++◌, length, decimal, sym, refl, ap, ◌∙◌, subst, inl, inr, ⊎_elim, arith, length-append}
use lib.ListN.{get_or-append}
use lib.Seq.{get_or-append_seam}
use Rattle.std.proofs.str.Laws.{order}
use Rattle.lexing.specs.Forms as forms
use Rattle.lexing.specs.Parts.{parts, Free, AllFree}
use Rattle.lexing.proofs.Cuts.{parts_joined, joined_free}
use Rattle.lexing.proofs.Digits.{number_free, name_free, no_letter, only_one}
use Rattle.lexing.proofs.Heads.{tail_same}
use Rattle.commands.proofs.RoundTrip.{line_free}
use Rattle.run_file.specs.declared.sections.Section.{Section}
use Rattle.run_file.specs.declared.sections.Section.TheVariants.{Names, Steps}
use Rattle.run_file.specs.Texts.{text_at}
use Rattle.run_file.specs.Form.{section_text, head, Counts, Apart, AllNames, StepLine, StepLines, Front, nothing, in_names, in_steps, lines_in, Right, Begins}
use Rattle.run_file.specs.Outcomes.{Longest}
use Rattle.run_file.proofs.Ended.{Lines, head_is, tail_is, longer, parted_sooner, parted_same, free_append}

-- a section's word
pub section_free : (b : ℕ) → b < 97 → (s : Section) → Free b (section_text s)
section_free b low Names = (λ e. omega arith, (λ e. omega arith, (λ e. omega arith, (λ e. omega arith, (λ e. omega arith, tt)))))
section_free b low Steps = (λ e. omega arith, (λ e. omega arith, (λ e. omega arith, (λ e. omega arith, (λ e. omega arith, tt)))))

pub section_word : (s : Section) → forms.Word (section_text s)
section_word Names n w = no_letter n _ w (omega arith)
section_word Steps n w = no_letter n _ w (omega arith)

pub counts_small : (s : Section) (n : ℕ) → Counts s n → n < 10 ^ 18
counts_small Names n h = omega (arith, h.1)
counts_small Steps n h = omega (arith, h.1)

head_words_free : (b : ℕ) → b < 48 → (s : Section) (n : ℕ) → Counts s n → AllFree b (section_text s ∷ decimal n ∷ [])
head_words_free b low s n h = (section_free b (omega arith) s, (number_free b n low (counts_small s n h), tt))

pub head_parts : (s : Section) (n : ℕ) → Counts s n → parts 32 (head s n) ≡ section_text s ∷ decimal n ∷ []
head_parts s n h = parts_joined 32 _ _ (head_words_free 32 (omega arith) s n h)

pub head_free : (s : Section) (n : ℕ) → Counts s n → Free 10 (head s n)
head_free s n h = joined_free 10 32 (λ e. omega arith) (section_text s ∷ decimal n ∷ []) (head_words_free 10 (omega arith) s n h)

-- a head tells its count
pub head_count : (s : Section) (m n : ℕ) → Counts s m → Counts s n → head s m ≡ head s n → m ≡ n
head_count s m n a b e =
    let same : decimal m ∷ [] ≡ decimal n ∷ [] = tail_same (head_parts s m a) (ap (parts 32) e ∙ head_parts s n b) in
    only_one m n (counts_small s m a) (counts_small s n b) (head_is same)

-- a name more
pub fresh_of : (ns : Lines) (l : List ℕ) (more : Lines) → AllNames (ns ++ l ∷ more) → forms.Name l × Apart ns l
fresh_of ns l more a =
    let long : length ns < length (ns ++ l ∷ more) = omega (arith, length-append ns (l ∷ more)) in
    let at : text_at (ns ++ l ∷ more) (length ns) ≡ l = get_or-append_seam ns l more [] in (
      subst forms.Name at (a.proper (length ns) long),
      λ k h e. a.apart k (length ns) h long (get_or-append ns (l ∷ more) [] k h ∙ e ∙ sym at),
    )

-- what may come after a front
abbrev pub Next : Front → List ℕ → Type 0
Next nothing l = (k : ℕ) × Counts Names k × (l ≡ head Names k)
Next (in_names k ns) l = ((length ns < k) × (forms.Name l × Apart ns l)) ⊎ ((length ns ≡ k) × ((n : ℕ) × Counts Steps n × (l ≡ head Steps n)))
Next (in_steps ns n ts) l = (length ts < n) × StepLine ns l

step_of : (ns ts : Lines) (l : List ℕ) (more : Lines) → StepLines ns (ts ++ l ∷ more) → StepLine ns l
step_of ns [] l more a = a.0
step_of ns (t ∷ ts) l more a = step_of ns ts l more a.1

next_of : (f g : Front) (l : List ℕ) (more : Lines) → Right f → Right g → lines_in g ≡ lines_in f ++ l ∷ more → Next f l
next_of nothing nothing l more a b e = absurd (omega (arith, ap length e))
next_of nothing (in_names k ns) l more a b e = (k, b.0, sym (head_is e))
next_of nothing (in_steps ns n ts) l more a b e = (length ns, b.0, sym (head_is e))
next_of (in_names k ns) nothing l more a b e = absurd (omega (arith, ap length e))
next_of (in_names k ns) (in_names j ms) l more a b e =
    let same = head_count Names j k b.0 a.0 (head_is e) in
    let is : ms ≡ ns ++ l ∷ more = tail_is e in
    inl (omega (arith, ap length is, length-append ns (l ∷ more), b.1, same), fresh_of ns l more (subst AllNames is b.2))
next_of (in_names k ns) (in_steps ms n ts) l more a b e =
    let same = head_count Names (length ms) k b.0 a.0 (head_is e) in
    ⊎_elim
    (λ less.
    let x = parted_sooner ms ns (head Steps n ∷ ts) (l ∷ more) (tail_is e) (omega (arith, same)) in
    inl (less, fresh_of ns l x.lines (subst AllNames (x.is ∙ ap (λ (y : List ℕ). ns ++ y ∷ x.lines) (sym (head_is x.rest))) b.1)))
    (λ full.
    let x = parted_same ms ns (head Steps n ∷ ts) (l ∷ more) (tail_is e) (omega (arith, same, a.1)) in
    inr (omega (arith, a.1), (n, b.2, sym (head_is x.1))))
    (order (length ns) k)
next_of (in_steps ns n ts) nothing l more a b e = absurd (omega (arith, ap length e))
next_of (in_steps ns n ts) (in_names k ms) l more a b e =
    let same = head_count Names k (length ns) b.0 a.0 (head_is e) in
    absurd (omega (arith, same, b.1, ap length (tail_is e), length-append (ns ++ head Steps n ∷ ts) (l ∷ more), length-append ns (head Steps n ∷ ts)))
next_of (in_steps ns n ts) (in_steps ms m us) l more a b e =
    let same = head_count Names (length ms) (length ns) b.0 a.0 (head_is e) in
    let x = parted_same ms ns (head Steps m ∷ us) ((head Steps n ∷ ts) ++ l ∷ more) (tail_is e ∙ grouped ns (head Steps n ∷ ts) (l ∷ more)) same in
    let count = head_count Steps m n b.2 a.2 (head_is x.1) in
    let is : us ≡ ts ++ l ∷ more = tail_is x.1 in (
      omega (arith, count, b.3, ap length is, length-append ts (l ∷ more)),
      step_of ns ts l more (subst (λ (us : Lines). StepLines ns us) is (subst (λ (ks : Lines). StepLines ks us) x.0 b.4)),
    )
  where
    grouped : (hs bs cs : Lines) → (hs ++ bs) ++ cs ≡ hs ++ (bs ++ cs)
    grouped [] bs cs = refl
    grouped (a ∷ hs) bs cs = ap (λ (ls : Lines). a ∷ ls) (grouped hs bs cs)

names_free : (ns : Lines) → ((k : ℕ) → k < length ns → forms.Name (text_at ns k)) → AllFree 10 ns
names_free [] h = tt
names_free (l ∷ ns) h = (name_free 10 l (omega arith) (h 0 (omega arith)), names_free ns (λ k lt. h (suc k) (omega arith)))

steps_free : (ns ts : Lines) → StepLines ns ts → AllFree 10 ts
steps_free ns [] a = tt
steps_free ns (t ∷ ts) a = (subst (Free 10) (sym a.0.is) (line_free a.0.command a.0.proper), steps_free ns ts a.1)

pub front_free : (f : Front) → Right f → AllFree 10 (lines_in f)
front_free nothing a = tt
front_free (in_names k ns) a = (head_free Names k a.0, names_free ns a.2.proper)
front_free (in_steps ns n ts) a = (head_free Names (length ns) a.0, free_append 10 ns _ (names_free ns a.1.proper) (head_free Steps n a.2, steps_free ns ts a.4))

-- a front after which no line comes is the longest
pub longest_front : (text : List ℕ) (f : Front) (rest : List ℕ) → Begins text f rest → ((l t : List ℕ) → Next f l → rest ≡ l ++ (10 ∷ t) → ⊥) → Longest text f rest
longest_front text f rest b stuck = record {
  begins = b;
  longest = λ g t c.
      ⊎_elim
      (λ less.
      let x = longer (lines_in f) (lines_in g) (front_free f b.0) (front_free g c.0) (sym b.1 ∙ c.1) less in
      absurd (stuck x.line _ (next_of f g x.line x.lines b.0 c.0 x.is) x.rest))
      (λ le. le)
      (order (length (lines_in f)) (length (lines_in g)));
}
