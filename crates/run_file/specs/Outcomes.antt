-- Which texts are run files, what they say, and what is wrong with the others.
use Rattle.std.specs.Prelude.{◌≡◌, ℕ, ◌+◌, ◌<◌, ◌≤◌, List, [], ◌∷◌, ◌++◌, map, length, Ok, Err, Result, ◌≢◌}
use Rattle.commands.specs.declared.shapes.Command.{Command}
use Rattle.commands.specs.Words.{Proper}
use Rattle.commands.specs.Lines.{written}
use Rattle.run_file.specs.declared.steps.Step.{Step}
use Rattle.run_file.specs.declared.steps.Line.{Line}
use Rattle.run_file.specs.declared.faults.Why.{Why}
use Rattle.run_file.specs.declared.faults.Why.TheVariants as why
use Rattle.run_file.specs.declared.faults.Unread.{Unread}
use Rattle.run_file.specs.declared.faults.Unread.TheVariants as unread
use Rattle.run_file.specs.Steps.{step_at, name_in, Numbered}
use Rattle.run_file.specs.Form.{Front, nothing, in_names, in_steps, lines_in, Begins}

-- A line's own text.
abbrev pub own : Line → List ℕ
own l = l.text.now

-- The step that a step line says.
pub record Says (names : List (List ℕ)) (t : List ℕ) (s : Step) : Type 0 where
  pub command : Command
  pub client : ℕ
  pub proper : Proper command
  pub listed : Numbered names client (name_in command)
  pub is : t ≡ written command
  pub step : s ≡ step_at client command

abbrev pub AllSay : List (List ℕ) → List Line → Type 0
AllSay names [] = Unit {0}
AllSay names (l ∷ ls) = Says names (own l) l.step × AllSay names ls

-- The text is the run file with these names and these step lines.
pub record Accepted (text : List ℕ) (names : List (List ℕ)) (lines : List Line) : Type 0 where
  pub fits : length text ≤ 32768
  pub whole : Begins text (in_steps names (length lines) (map own lines)) []
  pub says : AllSay names lines

-- The longest right front with which a text begins.
pub record Longest (text : List ℕ) (f : Front) (rest : List ℕ) : Type 0 where
  pub begins : Begins text f rest
  pub longest : (g : Front) (t : List ℕ) → Begins text g t → length (lines_in g) ≤ length (lines_in f)

-- A step line comes next, if its name is left out of account.
pub record CommandNext (rest : List ℕ) : Type 0 where
  pub command : Command
  pub after : List ℕ
  pub proper : Proper command
  pub is : rest ≡ written command ++ (10 ∷ after)

-- What is wrong with the line after a front: the section decides.
abbrev pub Wrong : Front → List ℕ → Why → Type 0
Wrong nothing rest why.Head = Unit {0}
Wrong nothing rest why.TooLong = ⊥
Wrong nothing rest why.Name = ⊥
Wrong nothing rest why.Step = ⊥
Wrong nothing rest why.Unlisted = ⊥
Wrong nothing rest why.Leftover = ⊥
Wrong (in_names k names) rest why.Head = length names ≡ k
Wrong (in_names k names) rest why.TooLong = ⊥
Wrong (in_names k names) rest why.Name = length names < k
Wrong (in_names k names) rest why.Step = ⊥
Wrong (in_names k names) rest why.Unlisted = ⊥
Wrong (in_names k names) rest why.Leftover = ⊥
Wrong (in_steps names n steps) rest why.Head = ⊥
Wrong (in_steps names n steps) rest why.TooLong = ⊥
Wrong (in_steps names n steps) rest why.Name = ⊥
Wrong (in_steps names n steps) rest why.Step = (length steps < n) × (CommandNext rest → ⊥)
Wrong (in_steps names n steps) rest why.Unlisted = (length steps < n) × CommandNext rest
Wrong (in_steps names n steps) rest why.Leftover = (length steps ≡ n) × (rest ≢ [])

-- A fault of a text that is not too long: the first faulty or missing line is the one after the longest right front.
pub record FaultyLine (text : List ℕ) (w : Why) (at : ℕ) : Type 0 where
  pub front : Front
  pub rest : List ℕ
  pub longest : Longest text front rest
  pub wrong : Wrong front rest w
  pub line : at ≡ length (lines_in front) + 1

-- The fault of a text.
abbrev pub Faulty : List ℕ → Why → ℕ → Type 0
Faulty text why.TooLong at = (32768 < length text) × (at ≡ 0)
Faulty text why.Head at = (length text ≤ 32768) × FaultyLine text why.Head at
Faulty text why.Name at = (length text ≤ 32768) × FaultyLine text why.Name at
Faulty text why.Step at = (length text ≤ 32768) × FaultyLine text why.Step at
Faulty text why.Unlisted at = (length text ≤ 32768) × FaultyLine text why.Unlisted at
Faulty text why.Leftover at = (length text ≤ 32768) × FaultyLine text why.Leftover at

-- There is room for the names and steps of the largest file.
abbrev pub Roomy : ℕ → ℕ → Type 0
Roomy names lines = (16 ≤ names) × (999 ≤ lines)

-- What a reading of a text into so much room answers: the names and lines of a run file, or why there are none.
abbrev pub Reads : List ℕ → ℕ → ℕ → Result (Unit {0}) Unread → List (List ℕ) → List Line → Type 0
Reads text room_names room_lines (Ok u) names lines = Roomy room_names room_lines × Accepted text names lines
Reads text room_names room_lines (Err unread.NoRoom) names lines = (Roomy room_names room_lines → ⊥) × (names ≡ []) × (lines ≡ [])
Reads text room_names room_lines (Err (unread.Faulty f)) names lines = Roomy room_names room_lines × Faulty text f.why f.line × (names ≡ []) × (lines ≡ [])
