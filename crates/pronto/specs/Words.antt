-- Acts and answers as text.
use Rattle.std.specs.Prelude.{ℕ, List, ◌++◌, codes, decimal}
use Rattle.journal.specs.Words.{judgement_words}
use Rattle.pronto.specs.Numbers.{number_of}
use Rattle.pronto.specs.declared.refusals.Refusal.{Refusal}
use Rattle.pronto.specs.declared.acts.TransactionId.{TransactionId}
use Rattle.pronto.specs.declared.acts.Act.{Act}
use Rattle.pronto.specs.declared.acts.Act.TheVariants as act
use Rattle.pronto.specs.declared.acts.Answer.{Answer}
use Rattle.pronto.specs.declared.acts.Answer.TheVariants as answer

-- Server, client and job.
abbrev pub id_words : TransactionId → List ℕ
id_words t = decimal t.server ++ (codes ", client " ++ (decimal t.client ++ (codes ", job " ++ decimal t.job)))

abbrev pub act_words : Act → List ℕ
act_words (act.Begin t) = codes "begin at " ++ id_words t
act_words (act.Run t c o) = codes "run at " ++ (id_words t ++ (codes " on cell " ++ decimal c))
act_words (act.Commit t) = codes "commit at " ++ id_words t
act_words (act.Abort t) = codes "abort at " ++ id_words t
act_words (act.Suspect i) = codes "suspect at " ++ decimal i
act_words act.Order = codes "order"
act_words (act.Deliver i) = codes "deliver at " ++ decimal i
act_words (act.Stop i) = codes "stop " ++ decimal i
act_words (act.Start i) = codes "start " ++ decimal i

-- A refusal, by its number.
abbrev pub refusal_words : Refusal → List ℕ
refusal_words r = codes "refused by " ++ decimal (number_of r)

-- What was answered.
abbrev pub answer_words : Answer → List ℕ
answer_words answer.Done = codes "ok"
answer_words (answer.Result v) = decimal v
answer_words (answer.Ordered p) = codes "position " ++ decimal p
answer_words (answer.Delivered p j) = codes "position " ++ (decimal p ++ (codes ": " ++ judgement_words j))
answer_words (answer.Refused r) = refusal_words r
