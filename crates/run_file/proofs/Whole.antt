-- From what reading a section comes to, what reading the file comes to.
use Rattle.std.proofs.Common.{◌≡◌, ℕ, ◌+◌, ◌≤◌, List, [], ◌∷◌, ◌++◌, map, length, Ok, Err, Result, sym, refl, ap, ◌∙◌, subst, ⊎_elim, arith, length-append}
use Rattle.std.proofs.lemmas.List.{length-map}
use Rattle.run_file.specs.declared.sections.Section.TheVariants.{Names, Steps}
use Rattle.run_file.specs.declared.steps.Line.{Line}
use Rattle.run_file.specs.declared.faults.Why.{Why}
use Rattle.run_file.specs.declared.faults.Why.TheVariants as why
use Rattle.run_file.specs.declared.faults.FileFault.{FileFault}
use Rattle.run_file.specs.Form.{ended, head, Counts, AllNames, Front, nothing, in_names, in_steps, lines_in}
use Rattle.run_file.specs.Outcomes.{own, Wrong, FaultyLine, Faulty}
use Rattle.run_file.specs.Sections.{NoLine, NamesStop, StepsRead, HeadLine, FileRead}
use Rattle.run_file.proofs.Ended.{Lines, ended_append}
use Rattle.run_file.proofs.Fronts.{longest_front}
use Rattle.run_file.proofs.Growing.{say_lines}

-- a line is never too long a file
not_too_long : (f : Front) (rest : List ℕ) → Wrong f rest why.TooLong → ⊥
not_too_long nothing rest w = w
not_too_long (in_names k ns) rest w = w
not_too_long (in_steps ns n ts) rest w = w

pub at_line : (text : List ℕ) (w : Why) (at : ℕ) → length text ≤ 32768 → FaultyLine text w at → Faulty text w at
at_line text why.TooLong at fits f = absurd (not_too_long f.front f.rest f.wrong)
at_line text why.Head at fits f = (fits, f)
at_line text why.Name at fits f = (fits, f)
at_line text why.Step at fits f = (fits, f)
at_line text why.Unlisted at fits f = (fits, f)
at_line text why.Leftover at fits f = (fits, f)

pub names_head_fault : (text : List ℕ) (f : FileFault) → length text ≤ 32768 → NoLine (HeadLine Names) text × (f.why ≡ why.Head) × (f.line ≡ 1) → Faulty text f.why f.line
names_head_fault text f fits h =
    at_line text f.why f.line fits
    (record {
      front = nothing;
      rest = text;
      longest = longest_front text nothing text (tt, refl) (λ l t n e. h.0 l t (record { count = n.0; fits = n.1; is = n.2 }) e);
      wrong = subst (Wrong nothing text) (sym h.1) tt;
      line = omega (arith, h.2);
    })

pub names_fault : (text rest : List ℕ) (k : ℕ) (f : FileFault) → length text ≤ 32768 → Counts Names k → text ≡ head Names k ++ (10 ∷ rest) → NamesStop rest k f → Faulty text f.why f.line
names_fault text rest k f fits counts e s =
    let front : Front = in_names k s.done in
    at_line text f.why f.line fits
    (record {
      front = front;
      rest = s.rest;
      longest =
          longest_front text front s.rest
          ((counts, omega (arith, s.few), s.names), e ∙ ap (λ (t : List ℕ). head Names k ++ (10 ∷ t)) s.split)
          (λ l t n g. ⊎_elim (λ fresh. s.stuck l t fresh.1 g) (λ full. omega (arith, full.0, s.few)) n);
      wrong = subst (Wrong front s.rest) (sym s.why) s.few;
      line = omega (arith, s.line);
    })

pub steps_head_fault :
    (text rest after : List ℕ) (k : ℕ) (ns : Lines) (f : FileFault) → length text ≤ 32768 → Counts Names k → text ≡ head Names k ++ (10 ∷ rest) →
    (length ns ≡ k) × AllNames ns × (rest ≡ ended ns after) → NoLine (HeadLine Steps) after × (f.why ≡ why.Head) × (f.line ≡ k + 2) → Faulty text f.why f.line
steps_head_fault text rest after k ns f fits counts e read h =
    let front : Front = in_names k ns in
    at_line text f.why f.line fits
    (record {
      front = front;
      rest = after;
      longest =
          longest_front text front after
          ((counts, omega (arith, read.0), read.1), e ∙ ap (λ (t : List ℕ). head Names k ++ (10 ∷ t)) read.2)
          (λ l t n g. ⊎_elim (λ fresh. omega (arith, fresh.0, read.0)) (λ full. h.0 l t (record { count = full.1.0; fits = full.1.1; is = full.1.2 }) g) n);
      wrong = subst (Wrong front after) (sym h.1) read.0;
      line = omega (arith, h.2, read.0);
    })

-- names, heads and steps, one after another
all_lines : (text rest after left : List ℕ) (k n : ℕ) (ns ts : Lines) → text ≡ head Names k ++ (10 ∷ rest) → length ns ≡ k → rest ≡ ended ns after → after ≡ head Steps n ++ (10 ∷ left) → (end : List ℕ) → left ≡ ended ts end → text ≡ ended (lines_in (in_steps ns n ts)) end
all_lines text rest after left k n ns ts e long f g end h =
    e ∙ (λ i. head Names (sym long i) ++ (10 ∷ (f ∙ ap (ended ns) (g ∙ ap (λ (t : List ℕ). head Steps n ++ (10 ∷ t)) h) ∙ sym (ended_append ns (head Steps n ∷ ts) end)) i))

pub steps_outcome :
    (text rest after left : List ℕ) (k n : ℕ) (ns : Lines) (r : Result (Unit {0}) FileFault) (ls : List Line) → length text ≤ 32768 → Counts Names k → text ≡ head Names k ++ (10 ∷ rest) →
    (length ns ≡ k) × AllNames ns × (rest ≡ ended ns after) → Counts Steps n × (after ≡ head Steps n ++ (10 ∷ left)) → StepsRead ns left n (k + 2 + 1) r ls → FileRead text r ns ls
steps_outcome text rest after left k n ns (Ok u) ls fits counts e read h s =
    let count = s.0 in
    let c : Counts Names (length ns) = subst (Counts Names) (sym read.0) counts in
    let whole = all_lines text rest after left k n ns (map own ls) e read.0 read.2 h.1 [] s.2 in
    record {
      fits = fits;
      whole = (
        (c, read.1, subst (Counts Steps) (sym count) h.0, omega (arith, length-map ls own), say_lines ns ls s.1),
        subst (λ (m : ℕ). text ≡ ended (lines_in (in_steps ns m (map own ls))) []) (sym count) whole,
      );
      says = s.1;
    }
steps_outcome text rest after left k n ns (Err f) ls fits counts e read h s =
    let front : Front = in_steps ns n s.done in
    let c : Counts Names (length ns) = subst (Counts Names) (sym read.0) counts in
    at_line text f.why f.line fits
    (record {
      front = front;
      rest = s.rest;
      longest =
          longest_front text front s.rest
          ((c, read.1, h.0, s.within, s.steps), all_lines text rest after left k n ns s.done e read.0 read.2 h.1 s.rest s.split)
          (λ l t m g. s.stuck m.0 l t m.1 g);
      wrong = s.wrong;
      line = omega (arith, s.line, read.0, length-append ns (head Steps n ∷ s.done));
    })
