-- The form of a run file: which lines stand in it, one after another.
use Rattle.std.specs.Prelude.{◌≡◌, ℕ, ◌<◌, ◌≤◌, List, [], ◌∷◌, ◌++◌, length, codes, decimal, ◌≢◌}
use Rattle.lexing.specs.Forms.{Name}
use Rattle.lexing.specs.Parts.{joined}
use Rattle.commands.specs.declared.shapes.Command.{Command}
use Rattle.commands.specs.Words.{Proper}
use Rattle.commands.specs.Lines.{written}
use Rattle.run_file.specs.declared.sections.Section.{Section}
use Rattle.run_file.specs.declared.sections.Section.TheVariants.{Names, Steps}
use Rattle.run_file.specs.Texts.{text_at}
use Rattle.run_file.specs.Steps.{name_in, Numbered}

-- Lines, each ended by byte 10, and then further bytes.
abbrev pub ended : List (List ℕ) → List ℕ → List ℕ
ended [] rest = rest
ended (l ∷ ls) rest = l ++ (10 ∷ ended ls rest)

abbrev pub section_text : Section → List ℕ
section_text Names = codes "names"
section_text Steps = codes "steps"

abbrev pub least : Section → ℕ
least Names = 1
least Steps = 0

abbrev pub most : Section → ℕ
most Names = 16
most Steps = 999

-- A section's head: its word and its count.
abbrev pub head : Section → ℕ → List ℕ
head s n = joined 32 (section_text s ∷ decimal n ∷ [])

abbrev pub Counts : Section → ℕ → Type 0
Counts s n = (least s ≤ n) × (n ≤ most s)

-- Not among the names.
abbrev pub Apart : List (List ℕ) → List ℕ → Type 0
Apart names t = (k : ℕ) → k < length names → text_at names k ≢ t

-- Names, none of which stands twice.
pub record AllNames (names : List (List ℕ)) : Type 0 where
  pub proper : (k : ℕ) → k < length names → Name (text_at names k)
  pub apart : (j k : ℕ) → j < k → k < length names → text_at names j ≢ text_at names k

-- A step line: the written form of a command whose name, if it has one, is listed.
pub record StepLine (names : List (List ℕ)) (t : List ℕ) : Type 0 where
  pub command : Command
  pub client : ℕ
  pub proper : Proper command
  pub listed : Numbered names client (name_in command)
  pub is : t ≡ written command

abbrev pub StepLines : List (List ℕ) → List (List ℕ) → Type 0
StepLines names [] = Unit {0}
StepLines names (t ∷ ts) = StepLine names t × StepLines names ts

-- How far a file may have come: nothing; the count of names and some of them; all names, the count of steps and some step lines.
pub data Front : Type 0 where
  nothing : Front
  in_names : (count : ℕ) (names : List (List ℕ)) → Front
  in_steps : (names : List (List ℕ)) (count : ℕ) (steps : List (List ℕ)) → Front

-- The lines of a front.
abbrev pub lines_in : Front → List (List ℕ)
lines_in nothing = []
lines_in (in_names k names) = head Names k ∷ names
lines_in (in_steps names n steps) = head Names (length names) ∷ (names ++ head Steps n ∷ steps)

-- The front of a file that is right so far.
abbrev pub Right : Front → Type 0
Right nothing = Unit {0}
Right (in_names k names) = Counts Names k × (length names ≤ k) × AllNames names
Right (in_steps names n steps) = Counts Names (length names) × AllNames names × Counts Steps n × (length steps ≤ n) × StepLines names steps

-- A text begins with the lines of a right front.
abbrev pub Begins : List ℕ → Front → List ℕ → Type 0
Begins text f rest = Right f × (text ≡ ended (lines_in f) rest)
