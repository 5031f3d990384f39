-- One act with its answer, and lists of them.
use Rattle.std.specs.Prelude.{◌≡◌, ℕ, List, [], ◌∷◌, Ok, Err, Result}
use Rattle.journal.specs.declared.verdicts.Judgement.{Judgement}
use Rattle.pronto.specs.States.{State}
use Rattle.pronto.specs.Acts.{Begin, Run, Commit, Abort, Suspect, Order, Deliver, Stop, Start}
use Rattle.pronto.specs.declared.refusals.Refusal.{Refusal}
use Rattle.pronto.specs.declared.acts.Act.{Act}
use Rattle.pronto.specs.declared.acts.Act.TheVariants as act
use Rattle.pronto.specs.declared.acts.Answer.{Answer}
use Rattle.pronto.specs.declared.acts.Answer.TheVariants as answer
use Rattle.pronto.specs.declared.acts.Entry.{Entry}

-- The answer that stands for a call's result.
abbrev pub done_of : Result (Unit {0}) Refusal → Answer
done_of (Ok u) = answer.Done
done_of (Err e) = answer.Refused e

abbrev pub result_of : Result ℕ Refusal → Answer
result_of (Ok x) = answer.Result x
result_of (Err e) = answer.Refused e

abbrev pub ordered_of : Result ℕ Refusal → Answer
ordered_of (Ok p) = answer.Ordered p
ordered_of (Err e) = answer.Refused e

abbrev pub delivered_of : Result (ℕ × Judgement) Refusal → Answer
delivered_of (Ok x) = answer.Delivered x.0 x.1
delivered_of (Err e) = answer.Refused e

-- An act gives this answer and leads from one state to the other.
abbrev pub Step : State → Act → Answer → State → Type 0
Step s (act.Begin t) a s' = (r : Result (Unit {0}) Refusal) × (a ≡ done_of r) × Begin t.client t.job s t.server r s'
Step s (act.Run t cell o) a s' = (r : Result ℕ Refusal) × (a ≡ result_of r) × Run t.client t.job cell o s t.server r s'
Step s (act.Commit t) a s' = (r : Result (Unit {0}) Refusal) × (a ≡ done_of r) × Commit t.client t.job s t.server r s'
Step s (act.Abort t) a s' = (r : Result (Unit {0}) Refusal) × (a ≡ done_of r) × Abort t.client t.job s t.server r s'
Step s (act.Suspect i) a s' = (r : Result (Unit {0}) Refusal) × (a ≡ done_of r) × Suspect s i r s'
Step s act.Order a s' = (r : Result ℕ Refusal) × (a ≡ ordered_of r) × Order s r s'
Step s (act.Deliver i) a s' = (r : Result (ℕ × Judgement) Refusal) × (a ≡ delivered_of r) × Deliver s i r s'
Step s (act.Stop i) a s' = (r : Result (Unit {0}) Refusal) × (a ≡ done_of r) × Stop s i r s'
Step s (act.Start i) a s' = (r : Result (Unit {0}) Refusal) × (a ≡ done_of r) × Start s i r s'

-- Acts with their answers, the first act first, lead from one state to another.
abbrev pub LeadsTo : State → List Entry → State → Type 0
LeadsTo s [] s' = s' ≡ s
LeadsTo s (x ∷ h) s' = (m : State) × Step s x.act x.answer m × LeadsTo m h s'
