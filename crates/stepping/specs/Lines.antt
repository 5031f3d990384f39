-- Lines that are written into a lent buffer of at least 96 bytes: of a step that is taken, and of a faulty file.
use Rattle.std.specs.Prelude.{◌≡◌, ℕ, ◌<◌, ◌≤◌, List, ◌++◌, length, Some, None, Ok, Err, codes, decimal, Option, Result}
use Rattle.pronto.specs.States.{State}
use Rattle.pronto.specs.declared.acts.Answer.{Answer}
use Rattle.run_file.specs.declared.steps.Line.{Line}
use Rattle.stepping.specs.declared.lines.ShortLine.{ShortLine}
use Rattle.stepping.specs.Buffers.{Filled}
use Rattle.stepping.specs.Answers.{line_text}
use Rattle.stepping.specs.Taking.{Takes}

-- The step of a line was taken, from one state to the other, and its line with the answer is the first n bytes of the buffer.
pub record Taken (names : List (List ℕ)) (found : Option Line) (n : ℕ) (old new : List ℕ) (s s' : State) : Type 0 where
  pub line : Line
  pub there : found ≡ Some line
  pub answer : Answer
  pub takes : Takes s line.step answer s'
  pub written : Filled old new n (line_text line.text.now names s'.log answer)

-- A step is taken exactly where there is one and the buffer has 96 bytes; otherwise nothing has changed.
abbrev pub Steps : Result (Option ℕ) ShortLine → List (List ℕ) → Option Line → List ℕ → List ℕ → State → State → Type 0
Steps (Ok (Some n)) names found old new s s' = (96 ≤ length old) × Taken names found n old new s s'
Steps (Ok None) names found old new s s' = (96 ≤ length old) × (found ≡ None) × (new ≡ old) × (s' ≡ s)
Steps (Err e) names found old new s s' = (length old < 96) × (new ≡ old) × (s' ≡ s)

-- A faulty file by its fault's number and its line.
abbrev pub fault_text : ℕ → ℕ → List ℕ
fault_text number line = codes "file " ++ decimal number ++ codes " " ++ decimal line

-- A text is written exactly where the buffer has 96 bytes; otherwise nothing has changed.
abbrev pub Writes : Result ℕ ShortLine → List ℕ → List ℕ → List ℕ → Type 0
Writes (Ok n) text old new = (96 ≤ length old) × Filled old new n text
Writes (Err e) text old new = (length old < 96) × (new ≡ old)
