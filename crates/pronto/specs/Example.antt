-- An afternoon of two servers. Both lead; server 1 stops while a commit of its own waits, restarts, replays and leads again.
use Rattle.std.specs.Prelude.{◌≡◌, ℕ, [], ◌∷◌, None}
use Rattle.statement.specs.declared.operation.Operation.TheVariants.{Get, Add, Take}
use Rattle.replica.specs.Meanings.{Meaning}
use Rattle.journal.specs.declared.verdicts.Judgement.TheVariants.{Accepted, Committed}
use Rattle.pronto.specs.States.{State, new_state}
use Rattle.pronto.specs.Steps.{Step, LeadsTo}
use Rattle.pronto.specs.Histories.{History}
use Rattle.pronto.specs.Law.{standing_of}
use Rattle.pronto.specs.declared.faults.ServerFault.TheVariants.{Barred}
use Rattle.pronto.specs.declared.refusals.Refusal.TheVariants.{Server}
use Rattle.pronto.specs.declared.acts.TransactionId.{TransactionId}
use Rattle.pronto.specs.declared.acts.Act.{Act}
use Rattle.pronto.specs.declared.acts.Act.TheVariants.{Begin, Run, Commit, Suspect, Order, Deliver, Stop, Start}
use Rattle.pronto.specs.declared.acts.Answer.{Answer}
use Rattle.pronto.specs.declared.acts.Answer.TheVariants.{Done, Result, Ordered, Delivered, Refused}
use Rattle.pronto.specs.declared.acts.Entry.{Entry}

abbrev pub act : Act → Answer → Entry
act a r = record { act = a; answer = r }

-- The job of a client at a server.
abbrev pub of : ℕ → ℕ → ℕ → TransactionId
of i c k = record { server = i; client = c; job = k }

abbrev pub afternoon : History
afternoon =
    -- server 1 leads epoch 1: client 0's job 1 is committed
    act (Begin (of 1 0 1)) Done
    ∷ act (Run (of 1 0 1) 5 (Add 3)) (Result 3)
    ∷ act (Commit (of 1 0 1)) Done
    ∷ act Order (Ordered 0)
    ∷ act (Deliver 1) (Delivered 0 Committed)
    -- it stops while job 2 waits, and server 2 suspects it
    ∷ act (Begin (of 1 0 2)) Done
    ∷ act (Run (of 1 0 2) 5 (Add 4)) (Result 7)
    ∷ act (Commit (of 1 0 2)) Done
    ∷ act (Stop 1) Done
    ∷ act (Suspect 2) Done
    ∷ act Order (Ordered 1)
    ∷ act Order (Ordered 2)
    -- it restarts with a bar
    ∷ act (Start 1) Done
    ∷ act (Begin (of 1 0 3)) (Refused (Server 1 Barred))
    -- server 2 takes both in and leads epoch 2
    ∷ act (Deliver 2) (Delivered 0 Committed)
    ∷ act (Deliver 2) (Delivered 1 Committed)
    ∷ act (Deliver 2) (Delivered 2 Accepted)
    ∷ act (Begin (of 2 1 1)) Done
    ∷ act (Run (of 2 1 1) 5 (Take 2)) (Result 1)
    ∷ act (Commit (of 2 1 1)) Done
    -- server 1 replays: position 0 is below its mark, position 1 is not
    ∷ act (Deliver 1) (Delivered 0 Committed)
    ∷ act (Deliver 1) (Delivered 1 Committed)
    ∷ act (Deliver 1) (Delivered 2 Accepted)
    ∷ act (Suspect 1) Done
    ∷ act Order (Ordered 3)
    ∷ act Order (Ordered 4)
    -- the epoch message past the bar lifts it, and server 1 leads epoch 3
    ∷ act (Deliver 1) (Delivered 3 Committed)
    ∷ act (Deliver 1) (Delivered 4 Accepted)
    ∷ act (Begin (of 1 0 3)) Done
    ∷ act (Run (of 1 0 3) 5 Get) (Result 5)
    ∷ act (Commit (of 1 0 3)) Done
    ∷ act Order (Ordered 5)
    ∷ act (Deliver 1) (Delivered 5 Committed)
    -- server 2 seals its own and takes in the rest
    ∷ act (Deliver 2) (Delivered 3 Committed)
    ∷ act (Deliver 2) (Delivered 4 Accepted)
    ∷ act (Deliver 2) (Delivered 5 Committed)
    ∷ []

-- The acts of the afternoon answer so, whatever the units of the databases; afterwards both servers stand alike and have the same in cell 5.
pub record AnAfternoon (units : ℕ → ℕ → ℕ) (spare : ℕ → Meaning) : Type 0 where
  pub evening : State
  pub leads : LeadsTo (new_state 8 2 2 units spare) afternoon evening
  pub first : standing_of (evening.servers 1) ≡ record { epoch = 3; delivered = 6; mark = 6 }
  pub second : standing_of (evening.servers 2) ≡ record { epoch = 3; delivered = 6; mark = 6 }
  pub cell_at_first : (evening.servers 1).db.cells 5 ≡ 5
  pub cell_at_second : (evening.servers 2).db.cells 5 ≡ 5
  pub bar : (evening.servers 1).bar ≡ None

abbrev pub Afternoon : Type 0
Afternoon = (units : ℕ → ℕ → ℕ) (spare : ℕ → Meaning) → AnAfternoon units spare

-- Every act has an answer, at every state.
abbrev pub AlwaysAnswered : Type 0
AlwaysAnswered = (s : State) (a : Act) → (r : Answer) × (s' : State) × Step s a r s'
