-- The table of worked cases: what a definition gives, and what it should.
use Rattle.std.specs.Prelude.{◌≡◌, ℕ, ◌-◌, ◌^◌, List, [], ◌∷◌, map, Some, Option}
use Rattle.statement.specs.declared.operation.Operation.TheVariants.{Add, Take, Join, Heads}
use Rattle.statement.specs.Operations.{changed, answered}
use Rattle.deferred.specs.Units.{unit_of_eight}
use Rattle.message.specs.Messages.{Msg, epoch_change, transaction}
use Rattle.broadcast.specs.Bags.{nth}
use Rattle.journal.specs.Judging.{Judged, accepted, committed, late, primary}
use Rattle.journal.specs.Verdicts.{judged_there}

pub data Value : Type 0 where
  number : ℕ → Value
  judged : Option Judged → Value

pub record Case : Type 0 where
  pub gives : Value
  pub should : Value

abbrev pub case : ℕ → ℕ → Case
case x y = record { gives = number x; should = number y }

-- Client 0's job 7 in epoch 1, an epoch message of epoch 1, and client 1's job 1 in epoch 1.
abbrev pub three_messages : List Msg
three_messages =
    transaction (record { sender = 1; epoch = 1; client = 0; job = 7; stmts = []; results = [] })
    ∷ epoch_change 2 1
    ∷ transaction (record { sender = 1; epoch = 1; client = 1; job = 1; stmts = []; results = [] })
    ∷ []

abbrev pub judgement_case : ℕ → Judged → Case
judgement_case p j = record { gives = judged (judged_there three_messages p (nth three_messages p)); should = judged (Some j) }

abbrev pub cases : List Case
cases =
    -- primaries among three servers and of one
    case (primary 3 1) 1
    ∷ case (primary 3 3) 3
    ∷ case (primary 3 4) 1
    ∷ case (primary 1 9) 1
    -- the largest cell plus 1
    ∷ case (changed (Add 1) (2 ^ 64 - 1)) 0
    -- takes from a cell of 4
    ∷ case (answered (Take 5) 4) 0
    ∷ case (answered (Take 4) 4) 1
    -- ones of 11
    ∷ case (answered Heads 11) 3
    -- member 63 joins cell 0, and joins again
    ∷ case (answered (Join 63) 0) 1
    ∷ case (answered (Join 63) (changed (Join 63) 0)) 0
    -- units of eight cells
    ∷ case (unit_of_eight 7) 0
    ∷ case (unit_of_eight 8) 1
    -- judgements of the three messages
    ∷ judgement_case 0 committed
    ∷ judgement_case 1 accepted
    ∷ judgement_case 2 late
    ∷ []

abbrev pub CasesHold : Type 0
CasesHold = map (λ (c : Case). c.gives) cases ≡ map (λ (c : Case). c.should) cases
