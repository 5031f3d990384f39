-- The words of a command.
use Rattle.std.specs.Prelude.{ℕ, ◌≤◌, List, [], ◌∷◌, ◌++◌, codes, decimal}
use Rattle.lexing.specs.Forms.{Name}
use Rattle.commands.specs.declared.openings.ServerVerb.{ServerVerb}
use Rattle.commands.specs.declared.openings.ServerVerb.TheVariants.{Suspect, Deliver, Stop, Start}
use Rattle.commands.specs.declared.openings.JobVerb.{JobVerb}
use Rattle.commands.specs.declared.openings.JobVerb.TheVariants.{Begin, Commit, Abort}
use Rattle.commands.specs.declared.openings.ReadVerb.{ReadVerb}
use Rattle.commands.specs.declared.openings.ReadVerb.TheVariants.{Get, Heads}
use Rattle.commands.specs.declared.openings.StoreVerb.{StoreVerb}
use Rattle.commands.specs.declared.openings.StoreVerb.TheVariants.{Set, Add, Take}
use Rattle.commands.specs.declared.openings.MemberVerb.{MemberVerb}
use Rattle.commands.specs.declared.openings.MemberVerb.TheVariants.{Join, Leave}
use Rattle.commands.specs.declared.openings.Opening.{Opening}
use Rattle.commands.specs.declared.openings.Opening.TheVariants as opening
use Rattle.commands.specs.declared.shapes.Target.{Target}
use Rattle.commands.specs.declared.shapes.Command.{Command}
use Rattle.commands.specs.declared.shapes.Command.TheVariants as command

abbrev pub server_text : ServerVerb → List ℕ
server_text Suspect = codes "suspect"
server_text Deliver = codes "deliver"
server_text Stop = codes "stop"
server_text Start = codes "start"

abbrev pub job_text : JobVerb → List ℕ
job_text Begin = codes "begin"
job_text Commit = codes "commit"
job_text Abort = codes "abort"

abbrev pub read_text : ReadVerb → List ℕ
read_text Get = codes "get"
read_text Heads = codes "heads"

abbrev pub store_text : StoreVerb → List ℕ
store_text Set = codes "set"
store_text Add = codes "add"
store_text Take = codes "take"

abbrev pub member_text : MemberVerb → List ℕ
member_text Join = codes "join"
member_text Leave = codes "leave"

abbrev pub opening_text : Opening → List ℕ
opening_text opening.Order = codes "order"
opening_text opening.Cell = codes "cell"
opening_text (opening.Server v) = server_text v
opening_text (opening.Job v) = job_text v
opening_text (opening.Read v) = read_text v
opening_text (opening.Store v) = store_text v
opening_text (opening.Member v) = member_text v

abbrev pub opens_with : Command → Opening
opens_with command.Order = opening.Order
opens_with (command.Cell server cell) = opening.Cell
opens_with (command.Server v server) = opening.Server v
opens_with (command.Job v t) = opening.Job v
opens_with (command.Read v t cell) = opening.Read v
opens_with (command.Store v t cell value) = opening.Store v
opens_with (command.Member v t cell member) = opening.Member v

-- Server, name and job.
abbrev pub target_words : Target → List (List ℕ)
target_words t = decimal t.server ∷ t.name.now ∷ decimal t.job ∷ []

-- Server, name, job and cell.
abbrev pub place_words : Target → ℕ → List (List ℕ)
place_words t cell = target_words t ++ decimal cell ∷ []

-- What follows the first word.
abbrev pub further_words : Command → List (List ℕ)
further_words command.Order = []
further_words (command.Cell server cell) = decimal server ∷ decimal cell ∷ []
further_words (command.Server v server) = decimal server ∷ []
further_words (command.Job v t) = target_words t
further_words (command.Read v t cell) = place_words t cell
further_words (command.Store v t cell value) = place_words t cell ++ decimal value ∷ []
further_words (command.Member v t cell member) = place_words t cell ++ decimal member ∷ []

abbrev pub words_of : Command → List (List ℕ)
words_of c = opening_text (opens_with c) ∷ further_words c

-- Servers, cells and members are at most 255, jobs below 2^32, values have at most 18 digits, and a name is a name.
pub record Aimed (t : Target) : Type 0 where
  pub server : t.server ≤ 255
  pub name : Name t.name.now
  pub job : t.job ≤ 4294967295

abbrev pub Proper : Command → Type 0
Proper command.Order = Unit {0}
Proper (command.Cell server cell) = (server ≤ 255) × (cell ≤ 255)
Proper (command.Server v server) = server ≤ 255
Proper (command.Job v t) = Aimed t
Proper (command.Read v t cell) = Aimed t × (cell ≤ 255)
Proper (command.Store v t cell value) = Aimed t × (cell ≤ 255) × (value ≤ 999999999999999999)
Proper (command.Member v t cell member) = Aimed t × (cell ≤ 255) × (member ≤ 255)
