-- The step that a command means, where its client has a number.
use Rattle.std.specs.Prelude.{◌≡◌, ℕ, ◌<◌, List, length, Some, None, Option, MatchOption}
use Rattle.statement.specs.declared.operation.Operation.{Operation}
use Rattle.statement.specs.declared.operation.Operation.TheVariants as operation
use Rattle.pronto.specs.declared.acts.TransactionId.{TransactionId}
use Rattle.pronto.specs.declared.acts.Act.{Act}
use Rattle.pronto.specs.declared.acts.Act.TheVariants as act
use Rattle.commands.specs.declared.openings.ServerVerb.{ServerVerb}
use Rattle.commands.specs.declared.openings.ServerVerb.TheVariants.{Suspect, Deliver, Stop, Start}
use Rattle.commands.specs.declared.openings.JobVerb.{JobVerb}
use Rattle.commands.specs.declared.openings.JobVerb.TheVariants.{Begin, Commit, Abort}
use Rattle.commands.specs.declared.openings.ReadVerb.{ReadVerb}
use Rattle.commands.specs.declared.openings.ReadVerb.TheVariants.{Get, Heads}
use Rattle.commands.specs.declared.openings.StoreVerb.{StoreVerb}
use Rattle.commands.specs.declared.openings.StoreVerb.TheVariants.{Set, Add, Take}
use Rattle.commands.specs.declared.openings.MemberVerb.{MemberVerb}
use Rattle.commands.specs.declared.openings.MemberVerb.TheVariants.{Join, Leave}
use Rattle.commands.specs.declared.shapes.Target.{Target}
use Rattle.commands.specs.declared.shapes.Command.{Command}
use Rattle.commands.specs.declared.shapes.Command.TheVariants as command
use Rattle.run_file.specs.declared.steps.Step.{Step}
use Rattle.run_file.specs.declared.steps.Step.TheVariants as step
use Rattle.run_file.specs.Texts.{text_at}

abbrev pub act_of_server : ServerVerb → ℕ → Act
act_of_server Suspect i = act.Suspect i
act_of_server Deliver i = act.Deliver i
act_of_server Stop i = act.Stop i
act_of_server Start i = act.Start i

abbrev pub act_of_job : JobVerb → TransactionId → Act
act_of_job Begin t = act.Begin t
act_of_job Commit t = act.Commit t
act_of_job Abort t = act.Abort t

abbrev pub reading : ReadVerb → Operation
reading Get = operation.Get
reading Heads = operation.Heads

abbrev pub storing : StoreVerb → ℕ → Operation
storing Set v = operation.Set v
storing Add v = operation.Add v
storing Take v = operation.Take v

abbrev pub changing : MemberVerb → ℕ → Operation
changing Join m = operation.Join m
changing Leave m = operation.Leave m

-- The transaction of a target whose client has the number k.
abbrev pub aimed_at : ℕ → Target → TransactionId
aimed_at k t = record { server = t.server; client = k; job = t.job }

-- The step of a command whose client has the number k.
abbrev pub step_at : ℕ → Command → Step
step_at k command.Order = step.Act act.Order
step_at k (command.Cell server cell) = step.Cell server cell
step_at k (command.Server v server) = step.Act (act_of_server v server)
step_at k (command.Job v t) = step.Act (act_of_job v (aimed_at k t))
step_at k (command.Read v t cell) = step.Act (act.Run (aimed_at k t) cell (reading v))
step_at k (command.Store v t cell value) = step.Act (act.Run (aimed_at k t) cell (storing v value))
step_at k (command.Member v t cell member) = step.Act (act.Run (aimed_at k t) cell (changing v member))

-- The name in a command, where it has one.
abbrev pub name_in : Command → Option (List ℕ)
name_in command.Order = None
name_in (command.Cell server cell) = None
name_in (command.Server v server) = None
name_in (command.Job v t) = Some t.name.now
name_in (command.Read v t cell) = Some t.name.now
name_in (command.Store v t cell value) = Some t.name.now
name_in (command.Member v t cell member) = Some t.name.now

-- A name has the number k: its place among the names. Where a command has no name, it counts as 0.
abbrev pub Numbered : List (List ℕ) → ℕ → Option (List ℕ) → Type 0
Numbered names k None = k ≡ 0
Numbered names k (Some name) = (k < length names) × (text_at names k ≡ name)

-- The name is not among the names.
abbrev pub Unlisted : List (List ℕ) → Option (List ℕ) → Type 0
Unlisted names name = (k : ℕ) → Numbered names k name → ⊥

-- r is the step of a command, or None where its name is not listed.
abbrev pub Means : List (List ℕ) → Command → Option Step → Type 0
Means names c r = MatchOption r (Unlisted names (name_in c)) (λ s. (k : ℕ) × Numbered names k (name_in c) × (s ≡ step_at k c))
