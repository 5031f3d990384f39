-- A step that is taken.
use Rattle.std.specs.Prelude.{◌≡◌, ℕ, Result}
use Rattle.pronto.specs.States.{State}
use Rattle.pronto.specs.Steps as acts
use Rattle.pronto.specs.declared.refusals.Refusal.{Refusal}
use Rattle.pronto.specs.declared.acts.Answer.{Answer}
use Rattle.ensemble.specs.Asking.{TellsCell}
use Rattle.run_file.specs.declared.steps.Step.{Step}
use Rattle.run_file.specs.declared.steps.Step.TheVariants as step

-- A step gives this answer and leads from one state to the other: an act is performed, and a question changes nothing.
abbrev pub Takes : State → Step → Answer → State → Type 0
Takes s (step.Act a) r s' = acts.Step s a r s'
Takes s (step.Cell i c) r s' = (s' ≡ s) × ((o : Result ℕ Refusal) × TellsCell s i c o × (r ≡ acts.result_of o))
