-- How the names and lines that were read grow by one, and what stops them.
use Rattle.std.proofs.Common.{◌≡◌, ℕ, ◌+◌, ◌<◌, ◌≤◌, List, [], ◌∷◌, ◌++◌, map, length, Some, None, Option, sym, refl, ap, ◌∙◌, subst, ⊎_elim, arith, length-append, Bor}
use lib.ListN.{get_or-append}
use lib.Seq.{get_or-append_seam}
use Rattle.std.proofs.str.Laws.{order}
use Rattle.std.proofs.lemmas.List.{length-map}
use Rattle.lexing.specs.Forms as forms
use Rattle.lexing.specs.Parts.{Free}
use Rattle.run_file.specs.Texts.{text_of, texts, text_at}
use Rattle.lexing.specs.Parts.{parts}
use Rattle.commands.specs.declared.shapes.Command.{Command}
use Rattle.commands.specs.declared.shapes.Command.TheVariants.{Order, Cell, Server, Job, Read, Store, Member}
use Rattle.commands.specs.Words.{words_of, Proper}
use Rattle.commands.specs.Lines.{written}
use Rattle.commands.proofs.RoundTrip.{line_free, command_parts}
use Rattle.run_file.specs.declared.steps.Line.{Line}
use Rattle.run_file.specs.declared.faults.Why.TheVariants as why
use Rattle.run_file.specs.declared.faults.FileFault.{FileFault}
use Rattle.run_file.specs.Steps.{name_in, Numbered, Unlisted}
use Rattle.run_file.specs.Form.{ended, Apart, AllNames, StepLine, StepLines, in_steps}
use Rattle.run_file.specs.Outcomes.{own, Says, AllSay, CommandNext, Wrong}
use Rattle.run_file.specs.Sections.{NoLine, NamesStop, StepsStop}
use Rattle.run_file.proofs.Ended.{Lines, ended_append, line_same}

pub map_more : {X Y : Type 0} (f : X → Y) (xs : List X) (x : X) → map f (xs ++ x ∷ []) ≡ map f xs ++ f x ∷ []
map_more f [] x = refl
map_more {X} {Y} f (y ∷ xs) x = ap (λ (ys : List Y). f y ∷ ys) (map_more f xs x)

pub ended_more : {text : List ℕ} (ls : Lines) (l after : List ℕ) {rest : List ℕ} → text ≡ ended ls rest → rest ≡ l ++ (10 ∷ after) → text ≡ ended (ls ++ l ∷ []) after
ended_more ls l after e f = e ∙ ap (ended ls) f ∙ sym (ended_append ls (l ∷ []) after)

pub no_names : AllNames []
no_names = record { proper = λ k h. absurd (omega arith); apart = λ j k h g e. absurd (omega arith) }

-- a place among the names with one more
at_more : (ns : Lines) (l : List ℕ) (k : ℕ) → k < length (ns ++ l ∷ []) → (P : List ℕ → Type 0) → (k < length ns → P (text_at ns k)) → (k ≡ length ns → P l) → P (text_at (ns ++ l ∷ []) k)
at_more ns l k h P old new =
    ⊎_elim
    (λ less. subst P (sym (get_or-append ns (l ∷ []) [] k less)) (old less))
    (λ past.
    let e : k ≡ length ns = omega (arith, length-append ns (l ∷ [])) in
    subst P (sym (ap (text_at (ns ++ l ∷ [])) e ∙ get_or-append_seam ns l [] [])) (new e))
    (order k (length ns))

pub names_more : (ns : Lines) (l : List ℕ) → AllNames ns → forms.Name l → Apart ns l → AllNames (ns ++ l ∷ [])
names_more ns l a n p = record {
  proper = λ k h. at_more ns l k h forms.Name (λ less. a.proper k less) (λ e. n);
  apart = λ j k lt h.
      let before : j < length ns = omega (arith, length-append ns (l ∷ [])) in
      let same = get_or-append ns (l ∷ []) [] j before in
      at_more ns l k h (λ t. text_at (ns ++ l ∷ []) j ≡ t → ⊥) (λ less e. a.apart j k lt less (sym same ∙ e)) (λ z e. p j before (sym same ∙ e));
}

-- a text without byte 10 has no line
no_end : (l t : List ℕ) → Free 10 (l ++ (10 ∷ t)) → ⊥
no_end [] t f = f.0 refl
no_end (b ∷ l) t f = no_end l t f.1

pub no_line : (Good : List ℕ → Type 0) (rest : List ℕ) → Free 10 rest → NoLine Good rest
no_line Good rest f l t good e = no_end l t (subst (Free 10) e f)

-- a line that is not good
pub bad_line : (Good : List ℕ → Type 0) (line after : List ℕ) {rest : List ℕ} → ((l : List ℕ) → Good l → Free 10 l) → Free 10 line → rest ≡ line ++ (10 ∷ after) → (Good line → ⊥) → NoLine Good rest
bad_line Good line after free f p bad l t good e = bad (subst Good (line_same (free l good) f (sym e ∙ p)).0 good)

-- what the lines say
pub say_lines : (ns : Lines) (ls : List Line) → AllSay ns ls → StepLines ns (map own ls)
say_lines ns [] a = tt
say_lines ns (l ∷ ls) a = (record { command = a.0.command; client = a.0.client; proper = a.0.proper; listed = a.0.listed; is = a.0.is }, say_lines ns ls a.1)

pub say_more : (ns : Lines) (ls : List Line) (l : Line) → AllSay ns ls → Says ns (own l) l.step → AllSay ns (ls ++ l ∷ [])
say_more ns [] l a s = (s, tt)
say_more ns (k ∷ ls) l a s = (a.0, say_more ns ls l a.1 s)

-- the third of four or more words is a name
abbrev name_word : List (List ℕ) → Option (List ℕ)
name_word [] = None
name_word (a ∷ []) = None
name_word (a ∷ b ∷ []) = None
name_word (a ∷ b ∷ n ∷ []) = None
name_word (a ∷ b ∷ n ∷ d ∷ ws) = Some n

named : (c : Command) → name_word (words_of c) ≡ name_in c
named Order = refl
named (Cell server cell) = refl
named (Server v server) = refl
named (Job v t) = refl
named (Read v t cell) = refl
named (Store v t cell value) = refl
named (Member v t cell member) = refl

pub same_words : (c d : Command) → Proper c → Proper d → written c ≡ written d → words_of c ≡ words_of d
same_words c d a b e = sym (command_parts c a) ∙ ap (parts 32) e ∙ command_parts d b

pub same_name : (c d : Command) → Proper c → Proper d → written c ≡ written d → name_in c ≡ name_in d
same_name c d a b e = sym (named c) ∙ ap name_word (same_words c d a b e) ∙ named d

-- where no command comes next, no step line does
pub no_step : (ns : Lines) (rest : List ℕ) → (CommandNext rest → ⊥) → NoLine (StepLine ns) rest
no_step ns rest h l t s e = h (record { command = s.command; after = t; proper = s.proper; is = e ∙ ap (λ (k : List ℕ). k ++ (10 ∷ t)) s.is })

pub no_command_free : (rest : List ℕ) → Free 10 rest → CommandNext rest → ⊥
no_command_free rest f c = no_end (written c.command) c.after (subst (Free 10) c.is f)

pub no_command_line : {rest : List ℕ} (line after : List ℕ) → Free 10 line → rest ≡ line ++ (10 ∷ after) → ((c : Command) → Proper c → line ≡ written c → ⊥) → CommandNext rest → ⊥
no_command_line line after f p bad c = bad c.command c.proper (line_same f (line_free c.command c.proper) (sym p ∙ c.is)).0

-- a command whose name is not listed
pub unlisted_line : (ns : Lines) {rest : List ℕ} (line after : List ℕ) (c : Command) → Free 10 line → rest ≡ line ++ (10 ∷ after) → Proper c → line ≡ written c → Unlisted ns (name_in c) → NoLine (StepLine ns) rest
unlisted_line ns line after c f p good e none =
    bad_line (StepLine ns) line after (λ l s. subst (Free 10) (sym s.is) (line_free s.command s.proper)) f p
    (λ s. none s.client (subst (Numbered ns s.client) (same_name s.command c s.proper good (sym s.is ∙ e)) s.listed))

-- the steps stop after these lines
pub stopped :
    (ns : Lines) (text : List ℕ) (count first : ℕ) (ls : List Line) (rest : List ℕ) (f : FileFault) →
    AllSay ns ls → text ≡ ended (map own ls) rest → length (map own ls) ≤ count → (length (map own ls) < count → NoLine (StepLine ns) rest) →
    Wrong (in_steps ns count (map own ls)) rest f.why → f.line ≡ first + length (map own ls) → StepsStop ns text count first f
stopped ns text count first ls rest f a e within stuck wrong at =
    record { done = map own ls; rest = rest; steps = say_lines ns ls a; split = e; within = within; stuck = stuck; wrong = wrong; line = at }

-- at a line that is no command,
pub no_command_stops :
    (ns : Lines) (text : List ℕ) (count first number : ℕ) (ls : List Line) (rest : List ℕ) → AllSay ns ls → text ≡ ended (map own ls) rest →
    first + length ls ≡ number → number < first + count → (CommandNext rest → ⊥) →
    StepsStop ns text count first (record { why = why.Step; line = number })
no_command_stops ns text count first number ls rest a e at less none =
    let long = length-map ls own in
    let f : FileFault = record { why = why.Step; line = number } in
    stopped ns text count first ls rest f a e (omega (arith, long)) (λ _. no_step ns rest none) (omega (arith, long), none) (omega (arith, long))

-- at a name that is not listed,
pub unlisted_stops :
    (ns : Lines) (text : List ℕ) (count first number : ℕ) (ls : List Line) (line after : List ℕ) {rest : List ℕ} (c : Command) →
    AllSay ns ls → text ≡ ended (map own ls) rest → first + length ls ≡ number → number < first + count → Free 10 line →
    rest ≡ line ++ (10 ∷ after) → Proper c → line ≡ written c → Unlisted ns (name_in c) →
    StepsStop ns text count first (record { why = why.Unlisted; line = number })
unlisted_stops ns text count first number ls line after {rest} c a e at less free p good is none =
    let long = length-map ls own in
    let f : FileFault = record { why = why.Unlisted; line = number } in
    let next : CommandNext rest = record { command = c; after = after; proper = good; is = p ∙ ap (λ (l : List ℕ). l ++ (10 ∷ after)) is } in
    stopped ns text count first ls rest f a e (omega (arith, long)) (λ _. unlisted_line ns line after c free p good is none)
    (omega (arith, long), next) (omega (arith, long))

-- or with bytes left
pub leftover_stops :
    (ns : Lines) (text : List ℕ) (count first number : ℕ) (ls : List Line) (rest : List ℕ) → AllSay ns ls → text ≡ ended (map own ls) rest →
    length ls ≡ count → first + count ≡ number → (rest ≡ [] → ⊥) → StepsStop ns text count first (record { why = why.Leftover; line = number })
leftover_stops ns text count first number ls rest a e all at some =
    let long = length-map ls own in
    let f : FileFault = record { why = why.Leftover; line = number } in
    stopped ns text count first ls rest f a e (omega (arith, long)) (λ less. absurd (omega (arith, long, less))) (omega (arith, long), some)
    (omega (arith, long))

-- the names stop after these
pub names_stop :
    (text : List ℕ) (count line : ℕ) (rs : List (Bor (List ℕ))) (rest : List ℕ) → AllNames (texts rs) → text ≡ ended (texts rs) rest →
    length rs + 2 ≡ line → line < count + 2 → NoLine (λ l. forms.Name l × Apart (texts rs) l) rest →
    NamesStop text count (record { why = why.Name; line = line })
names_stop text count line rs rest a e at less stuck =
    let long = length-map rs text_of in
    record { done = texts rs; rest = rest; names = a; split = e; few = omega (arith, long); stuck = stuck; why = refl; line = omega (arith, long) }
