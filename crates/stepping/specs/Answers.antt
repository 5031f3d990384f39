-- The text of an answer, and the line of a step with it.
use Rattle.std.specs.Prelude.{ℕ, List, [], ◌++◌, Some, None, codes, decimal, Option}
use Rattle.message.specs.Messages.{Msg, epoch_change, transaction}
use Rattle.broadcast.specs.Bags.{nth}
use Rattle.journal.specs.declared.verdicts.Judgement.{Judgement}
use Rattle.journal.specs.declared.verdicts.Judgement.TheVariants as judged
use Rattle.pronto.specs.Numbers.{number_of}
use Rattle.pronto.specs.declared.faults.ServerFault.{ServerFault}
use Rattle.pronto.specs.declared.faults.ServerFault.TheVariants as fault
use Rattle.pronto.specs.declared.refusals.Refusal.{Refusal}
use Rattle.pronto.specs.declared.refusals.Refusal.TheVariants as refusal
use Rattle.pronto.specs.declared.acts.Answer.{Answer}
use Rattle.pronto.specs.declared.acts.Answer.TheVariants as answer
use Rattle.run_file.specs.Texts.{text_at}

-- The cell at which a database is busy, where that is why a server refuses.
abbrev pub cell_of_fault : ServerFault → Option ℕ
cell_of_fault fault.Stopped = None
cell_of_fault fault.Running = None
cell_of_fault fault.NoClient = None
cell_of_fault fault.NoCell = None
cell_of_fault fault.NotPrimary = None
cell_of_fault fault.Barred = None
cell_of_fault fault.AlreadyOpen = None
cell_of_fault fault.Crowded = None
cell_of_fault fault.NoTransaction = None
cell_of_fault fault.Committing = None
cell_of_fault fault.Long = None
cell_of_fault (fault.Busy cell) = Some cell
cell_of_fault fault.AllDelivered = None
cell_of_fault fault.Torn = None

abbrev pub cell_of_busy : Refusal → Option ℕ
cell_of_busy refusal.NoServer = None
cell_of_busy (refusal.Server i e) = cell_of_fault e
cell_of_busy (refusal.Full i) = None
cell_of_busy refusal.NothingWaits = None
cell_of_busy refusal.NotOrdered = None

abbrev pub cell_text : Option ℕ → List ℕ
cell_text None = []
cell_text (Some cell) = codes " " ++ decimal cell

-- A refusal by its number, with the cell of a busy database.
abbrev pub refusal_text : Refusal → List ℕ
refusal_text e = codes "no " ++ decimal (number_of e) ++ cell_text (cell_of_busy e)

-- Whose job a message is: the client's name and the job. Nothing for what is no transaction.
abbrev pub owner_text : List (List ℕ) → Option Msg → List ℕ
owner_text names None = []
owner_text names (Some (epoch_change sender epoch)) = []
owner_text names (Some (transaction t)) = text_at names t.client ++ codes " " ++ decimal t.job

-- A judgement of a message with this owner.
abbrev pub judgement_text : List ℕ → Judgement → List ℕ
judgement_text owner judged.Accepted = codes " epoch"
judgement_text owner judged.Stale = codes " stale"
judgement_text owner judged.Committed = codes " commit " ++ owner
judgement_text owner judged.Late = codes " late " ++ owner
judgement_text owner (judged.Again earlier) = codes " again " ++ owner ++ codes " " ++ decimal earlier

-- A number that is told.
abbrev pub told_text : ℕ → List ℕ
told_text n = codes "ok " ++ decimal n

-- An answer, where clients have these names and the log is this one.
abbrev pub answer_text : List (List ℕ) → List Msg → Answer → List ℕ
answer_text names log answer.Done = codes "ok"
answer_text names log (answer.Result value) = told_text value
answer_text names log (answer.Ordered position) = told_text position
answer_text names log (answer.Delivered position judgement) = told_text position ++ judgement_text (owner_text names (nth log position)) judgement
answer_text names log (answer.Refused e) = refusal_text e

-- A step's own line, an arrow and its answer.
abbrev pub line_text : List ℕ → List (List ℕ) → List Msg → Answer → List ℕ
line_text own names log a = own ++ codes " -> " ++ answer_text names log a

-- The most bytes that an answer takes.
abbrev pub longest_answer : Answer → ℕ
longest_answer answer.Done = 26
longest_answer (answer.Result value) = 26
longest_answer (answer.Ordered position) = 26
longest_answer (answer.Delivered position judgement) = 70
longest_answer (answer.Refused e) = 26
