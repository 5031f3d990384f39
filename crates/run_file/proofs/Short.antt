-- A step's own line is short, by its words.
use Rattle.std.proofs.Common.{◌≡◌, ℕ, ◌+◌, ◌≤◌, true, leb, List, [], ◌∷◌, ◌++◌, length, decimal, refl, ap, ◌∙◌, ⊎_elim, arith, length-append, le-leb, leb-true}
use Rattle.std.proofs.str.Laws.{order}
use Rattle.std.proofs.lemmas.Fmt.{length-decimal-le}
use Rattle.std.proofs.lemmas.Bool.{and_from}
use Rattle.lexing.specs.Parts.{joined}
use Rattle.commands.specs.declared.openings.ServerVerb.TheVariants.{Suspect, Deliver, Stop, Start}
use Rattle.commands.specs.declared.openings.JobVerb.TheVariants.{Begin, Commit, Abort}
use Rattle.commands.specs.declared.openings.Opening.{Opening}
use Rattle.commands.specs.declared.openings.Opening.TheVariants as opening
use Rattle.commands.specs.declared.shapes.Target.{Target}
use Rattle.commands.specs.declared.shapes.Command.{Command}
use Rattle.commands.specs.declared.shapes.Command.TheVariants.{Order, Cell, Server, Job, Read, Store, Member}
use Rattle.commands.specs.Words.{opening_text, opens_with, target_words, further_words, Aimed, Proper}
use Rattle.commands.proofs.FirstWords.{each}
use Rattle.run_file.specs.declared.steps.Step.{Step}
use Rattle.run_file.specs.declared.steps.Line.{Line}
use Rattle.run_file.specs.Texts.{text_at, longest, lines_are_short}
use Rattle.run_file.specs.Steps.{step_at}
use Rattle.run_file.specs.Form.{AllNames}
use Rattle.run_file.specs.Outcomes.{own, Says, AllSay}
use Rattle.run_file.proofs.Places.{past_end}

-- the bytes of further words, each with its space
abbrev spaced : List (List ℕ) → ℕ
spaced [] = 0
spaced (w ∷ ws) = length w + spaced ws + 1

joined_length : (w : List ℕ) (ws : List (List ℕ)) → length (joined 32 (w ∷ ws)) ≡ length w + spaced ws
joined_length w [] = omega arith
joined_length w (v ∷ ws) = length-append w (32 ∷ joined 32 (v ∷ ws)) ∙ omega (arith, joined_length v ws)

-- the most letters of an opening
abbrev letters : Opening → ℕ
letters opening.Order = 5
letters opening.Cell = 4
letters (opening.Server v) = 7
letters (opening.Job v) = 6
letters (opening.Read v) = 5
letters (opening.Store v) = 4
letters (opening.Member v) = 5

few_letters : (o : Opening) → leb (length (opening_text o)) (letters o) ≡ true
few_letters = each (λ o. leb (length (opening_text o)) (letters o) ≡ true) refl refl refl refl refl refl refl refl refl refl refl refl refl refl refl refl

few : (o : Opening) → length (opening_text o) ≤ letters o
few o = leb-true _ _ (few_letters o)

three : (n : ℕ) → n ≤ 255 → length (decimal n) ≤ 3
three n h = length-decimal-le 3 n (omega arith) (omega arith) (omega arith)

ten : (n : ℕ) → n ≤ 4294967295 → length (decimal n) ≤ 10
ten n h = length-decimal-le 10 n (omega arith) (omega arith) (omega arith)

eighteen : (n : ℕ) → n ≤ 999999999999999999 → length (decimal n) ≤ 18
eighteen n h = length-decimal-le 18 n (omega arith) (omega arith) (omega arith)

target_short : (t : Target) (ws : List (List ℕ)) → Aimed t → spaced (target_words t ++ ws) ≤ 24 + spaced ws
target_short t ws a = omega (arith, three t.server a.server, a.name.short, ten t.job a.job)

further_short : (c : Command) → Proper c → letters (opens_with c) + spaced (further_words c) ≤ longest (step_at 0 c)
further_short Order good = omega arith
further_short (Cell server cell) good = omega (arith, three server good.0, three cell good.1)
further_short (Server Suspect server) good = omega (arith, three server good)
further_short (Server Deliver server) good = omega (arith, three server good)
further_short (Server Stop server) good = omega (arith, three server good)
further_short (Server Start server) good = omega (arith, three server good)
further_short (Job Begin t) good = omega (arith, target_short t [] good)
further_short (Job Commit t) good = omega (arith, target_short t [] good)
further_short (Job Abort t) good = omega (arith, target_short t [] good)
further_short (Read v t cell) good = omega (arith, target_short t (decimal cell ∷ []) good.0, three cell good.1)
further_short (Store v t cell value) good = omega (arith, target_short t (decimal cell ∷ decimal value ∷ []) good.0, three cell good.1, eighteen value good.2)
further_short (Member v t cell member) good = omega (arith, target_short t (decimal cell ∷ decimal member ∷ []) good.0, three cell good.1, three member good.2)

any_client : (k : ℕ) (c : Command) → longest (step_at k c) ≡ longest (step_at 0 c)
any_client k Order = refl
any_client k (Cell server cell) = refl
any_client k (Server v server) = refl
any_client k (Job Begin t) = refl
any_client k (Job Commit t) = refl
any_client k (Job Abort t) = refl
any_client k (Read v t cell) = refl
any_client k (Store v t cell value) = refl
any_client k (Member v t cell member) = refl

line_short : (ns : List (List ℕ)) (t : List ℕ) (s : Step) → Says ns t s → length t ≤ longest s
line_short ns t s a =
    let c = a.command in
    omega (arith, ap length a.is, joined_length (opening_text (opens_with c)) (further_words c), few (opens_with c), further_short c a.proper, any_client a.client c, ap longest a.step)

pub lines_short : (ns : List (List ℕ)) (ls : List Line) → AllSay ns ls → lines_are_short ls ≡ true
lines_short ns [] a = refl
lines_short ns (l ∷ ls) a = and_from _ _ (le-leb _ _ (line_short ns (own l) l.step a.0)) (lines_short ns ls a.1)

pub names_short : (ns : List (List ℕ)) → AllNames ns → (k : ℕ) → length (text_at ns k) ≤ 8
names_short ns a k = ⊎_elim (λ less. (a.proper k less).short) (λ past. omega (arith, ap length (past_end ns k past))) (order k (length ns))
