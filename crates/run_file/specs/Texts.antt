-- Texts that are views into a run file, and how long the line of a step can be.
use Rattle.std.specs.Prelude.{ℕ, Bool, true, ◌&&◌, List, [], ◌∷◌, map, length, nat_le, slice_index_or}
use Rattle.std.specs.Borrow.{Bor}
use Rattle.pronto.specs.declared.acts.Act.{Act}
use Rattle.pronto.specs.declared.acts.Act.TheVariants as act
use Rattle.run_file.specs.declared.steps.Step.{Step}
use Rattle.run_file.specs.declared.steps.Step.TheVariants as step
use Rattle.run_file.specs.declared.steps.Line.{Line}

abbrev pub text_of : Bor (List ℕ) → List ℕ
text_of r = r.now

abbrev pub texts : List (Bor (List ℕ)) → List (List ℕ)
texts rs = map text_of rs

-- The text at a place; empty where there is none.
abbrev pub text_at : List (List ℕ) → ℕ → List ℕ
text_at ts k = slice_index_or ts k []

-- The most bytes that a step's own line has.
abbrev pub longest_act : Act → ℕ
longest_act (act.Begin t) = 52
longest_act (act.Run t cell o) = 52
longest_act (act.Commit t) = 52
longest_act (act.Abort t) = 52
longest_act (act.Suspect i) = 11
longest_act act.Order = 11
longest_act (act.Deliver i) = 11
longest_act (act.Stop i) = 11
longest_act (act.Start i) = 11

abbrev pub longest : Step → ℕ
longest (step.Act a) = longest_act a
longest (step.Cell i c) = 52

-- Each line is within its step's bound.
abbrev pub lines_are_short : List Line → Bool
lines_are_short [] = true
lines_are_short (l ∷ ls) = nat_le (length l.text.now) (longest l.step) && lines_are_short ls
