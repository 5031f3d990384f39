-- What running the steps of a file does, with the law.
use Rattle.std.specs.Prelude.{◌≡◌, ℕ, ◌+◌, ◌*◌, ◌<◌, ◌≤◌, List, [], ◌∷◌, ◌++◌, length, Some, Ok, Err, Option, Result}
use Rattle.replica.specs.Meanings.{Meaning}
use Rattle.pronto.specs.States.{State, new_state}
use Rattle.pronto.specs.Steps.{LeadsTo}
use Rattle.pronto.specs.Histories.{History}
use Rattle.pronto.specs.Law.{LawfulOn}
use Rattle.pronto.specs.declared.acts.Answer.{Answer}
use Rattle.run_file.specs.declared.steps.Step.{Step}
use Rattle.run_file.specs.declared.steps.Step.TheVariants as step
use Rattle.run_file.specs.declared.steps.Line.{Line}
use Rattle.run_file.specs.Outcomes.{own}
use Rattle.stepping.specs.Taking.{Takes}
use Rattle.stepping.specs.Answers.{line_text}
use Rattle.stepping.specs.Buffers.{Filled, Adds}
use Rattle.session.specs.declared.running.ShortOutput.{ShortOutput}

-- A step's line, ended by byte 10.
abbrev pub ended_line : List (List ℕ) → Line → State → Answer → List ℕ
ended_line names l s a = line_text (own l) names s.log a ++ 10 ∷ []

-- What a step adds to the history of acts: a question is no act.
abbrev pub entries : Step → Answer → History
entries (step.Act a) r = record { act = a; answer = r } ∷ []
entries (step.Cell i c) r = []

-- The steps of these lines, taken one after another, lead from one state to another, print this text, and add this to the history.
abbrev pub Prints : List (List ℕ) → State → List Line → List ℕ → History → State → Type 0
Prints names s [] text h s' = (text ≡ []) × (h ≡ []) × (s' ≡ s)
Prints names s (l ∷ ls) text h s' =
    (m : State) × (a : Answer) × (rest : List ℕ) × (later : History) × Takes s l.step a m × (text ≡ ended_line names l m a ++ rest) × (h ≡ entries l.step a ++ later) × Prints names m ls rest later s'

-- The step of a line was taken, and its line was added to the output.
pub record Stepped (names : List (List ℕ)) (found : Option Line) (old : List ℕ) (at : ℕ) (new : List ℕ) (n : ℕ) (s s' : State) : Type 0 where
  pub line : Line
  pub there : found ≡ Some line
  pub answer : Answer
  pub takes : Takes s line.step answer s'
  pub adds : Adds old at (ended_line names line s' answer) new n
  pub short : n ≤ at + 97

-- All steps were taken; the output begins with what they print. Where acts led from a new ensemble to s, the law holds at both moments.
pub record Ran (names : List (List ℕ)) (lines : List Line) (old new : List ℕ) (n : ℕ) (s s' : State) : Type 0 where
  pub text : List ℕ
  pub added : History
  pub prints : Prints names s lines text added s'
  pub filled : Filled old new n text
  pub leads : LeadsTo s added s'
  pub law : (capacity count databases : ℕ) (units : ℕ → ℕ → ℕ) (spare : ℕ → Meaning) → count ≤ databases → capacity ≤ 4096 →
      (h : History) → LeadsTo (new_state capacity count databases units spare) h s → LawfulOn h added s s'

-- The steps are run exactly where the output has 97 bytes for each of them; otherwise nothing has changed.
abbrev pub Runs : Result ℕ ShortOutput → List (List ℕ) → List Line → List ℕ → List ℕ → State → State → Type 0
Runs (Ok n) names lines old new s s' = (97 * length lines ≤ length old) × Ran names lines old new n s s'
Runs (Err e) names lines old new s s' = (length old < 97 * length lines) × (new ≡ old) × (s' ≡ s)
