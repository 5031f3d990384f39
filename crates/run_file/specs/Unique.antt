-- A text has one answer.
use Rattle.std.specs.Prelude.{◌≡◌, ℕ, List, map}
use Rattle.run_file.specs.declared.steps.Step.{Step}
use Rattle.run_file.specs.declared.steps.Line.{Line}
use Rattle.run_file.specs.declared.faults.Why.{Why}
use Rattle.run_file.specs.Outcomes.{own, Accepted, Faulty}

abbrev pub step_in : Line → Step
step_in l = l.step

-- It has at most one fault,
abbrev pub OneFault : Type 0
OneFault = (text : List ℕ) (w v : Why) (a b : ℕ) → Faulty text w a → Faulty text v b → (w ≡ v) × (a ≡ b)

-- and none where it is a run file,
abbrev pub NoFault : Type 0
NoFault = (text : List ℕ) (names : List (List ℕ)) (lines : List Line) (w : Why) (a : ℕ) → Accepted text names lines → Faulty text w a → ⊥

-- and a run file says one thing.
abbrev pub OneReading : Type 0
OneReading =
    (text : List ℕ) (names names' : List (List ℕ)) (lines lines' : List Line) → Accepted text names lines → Accepted text names' lines' →
    (names ≡ names') × (map own lines ≡ map own lines') × (map step_in lines ≡ map step_in lines')
