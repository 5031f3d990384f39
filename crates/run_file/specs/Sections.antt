-- What reading one section comes to.
use Rattle.std.specs.Prelude.{◌≡◌, ℕ, ◌+◌, ◌<◌, ◌≤◌, List, [], ◌∷◌, ◌++◌, map, length, Ok, Err, Result, ◌≢◌}
use Rattle.std.specs.Borrow.{Bor}
use Rattle.lexing.specs.Forms.{Name}
use Rattle.run_file.specs.declared.steps.Line.{Line}
use Rattle.run_file.specs.declared.faults.Why.TheVariants as why
use Rattle.run_file.specs.declared.faults.FileFault.{FileFault}
use Rattle.run_file.specs.declared.sections.Section.{Section}
use Rattle.run_file.specs.Form.{ended, head, Counts, Apart, AllNames, StepLine, StepLines, in_steps}
use Rattle.run_file.specs.Outcomes.{own, AllSay, Wrong, Accepted, Faulty}

-- No good line comes next.
abbrev pub NoLine : (List ℕ → Type 0) → List ℕ → Type 0
NoLine Good rest = (l t : List ℕ) → Good l → rest ≢ l ++ (10 ∷ t)

-- The names stop before there are enough of them.
pub record NamesStop (text : List ℕ) (count : ℕ) (f : FileFault) : Type 0 where
  pub done : List (List ℕ)
  pub rest : List ℕ
  pub names : AllNames done
  pub split : text ≡ ended done rest
  pub few : length done < count
  pub stuck : NoLine (λ l. Name l × Apart done l) rest
  pub why : f.why ≡ why.Name
  pub line : f.line ≡ length done + 2

-- So many names were read, and the rest is left; or they stop.
abbrev pub NamesRead : List ℕ → ℕ → Result (Bor (List ℕ)) FileFault → List (List ℕ) → Type 0
NamesRead text count (Ok rest) names = (length names ≡ count) × AllNames names × (text ≡ ended names rest.now)
NamesRead text count (Err f) names = NamesStop text count f

-- The steps stop, before there are enough of them or with bytes left.
pub record StepsStop (names : List (List ℕ)) (text : List ℕ) (count : ℕ) (before : ℕ) (f : FileFault) : Type 0 where
  pub done : List (List ℕ)
  pub rest : List ℕ
  pub steps : StepLines names done
  pub split : text ≡ ended done rest
  pub within : length done ≤ count
  pub stuck : length done < count → NoLine (StepLine names) rest
  pub wrong : Wrong (in_steps names count done) rest f.why
  pub line : f.line ≡ before + length done

-- So many steps were read, and nothing is left; or they stop.
abbrev pub StepsRead : List (List ℕ) → List ℕ → ℕ → ℕ → Result (Unit {0}) FileFault → List Line → Type 0
StepsRead names text count before (Ok u) lines = (length lines ≡ count) × AllSay names lines × (text ≡ ended (map own lines) [])
StepsRead names text count before (Err f) lines = StepsStop names text count before f

-- A section's head.
pub record HeadLine (s : Section) (l : List ℕ) : Type 0 where
  pub count : ℕ
  pub fits : Counts s count
  pub is : l ≡ head s count

-- The head of a section was read, and the rest is left; or the line of this number is none.
abbrev pub HeadRead : Section → List ℕ → ℕ → Result (ℕ × Bor (List ℕ)) FileFault → Type 0
HeadRead s text number (Ok x) = Counts s x.0 × (text ≡ head s x.0 ++ (10 ∷ x.1.now))
HeadRead s text number (Err f) = NoLine (HeadLine s) text × (f.why ≡ why.Head) × (f.line ≡ number)

-- What reading a text comes to.
abbrev pub FileRead : List ℕ → Result (Unit {0}) FileFault → List (List ℕ) → List Line → Type 0
FileRead text (Ok u) names lines = Accepted text names lines
FileRead text (Err f) names lines = Faulty text f.why f.line
