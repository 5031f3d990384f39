-- What becomes of an open transaction that is reached.
use Rattle.std.specs.Prelude.{Bool, true, false, Ok, Err, Result}
use Rattle.pronto.specs.declared.faults.ServerFault.{ServerFault}
use Rattle.pronto.specs.declared.faults.ServerFault.TheVariants as fault
use Rattle.server.specs.declared.states.State.{State}
use Rattle.server.specs.declared.states.State.TheVariants.{Executing, Committing}
use Rattle.server.specs.declared.states.Arrival.{Arrival}
use Rattle.server.specs.declared.states.Arrival.TheVariants.{Run, Commit, Abort, Delivered}
use Rattle.server.specs.declared.states.Outcome.{Outcome}
use Rattle.server.specs.declared.states.Outcome.TheVariants.{Stays, Commits, Ends}

-- An executing transaction can be asked for anything; a committing one is ended by its own message alone.
abbrev pub outcome_of : State → Arrival → Result Outcome ServerFault
outcome_of Executing Run = Ok Stays
outcome_of Executing Commit = Ok Commits
outcome_of Executing Abort = Ok Ends
outcome_of Executing Delivered = Ok Stays
outcome_of Committing Run = Err fault.Committing
outcome_of Committing Commit = Err fault.Committing
outcome_of Committing Abort = Err fault.Committing
outcome_of Committing Delivered = Ok Ends

-- An act that asks something of a transaction.
abbrev pub asks : Arrival → Bool
asks Run = true
asks Commit = true
asks Abort = true
asks Delivered = false

-- The transaction is committing.
abbrev pub is_committing : State → Bool
is_committing Executing = false
is_committing Committing = true
