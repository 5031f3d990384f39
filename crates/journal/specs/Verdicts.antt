-- The code's judgements, and what a pass over the log knows.
use Rattle.std.specs.Prelude.{◌≡◌, ℕ, ◌<◌, List, Some, None, Ok, Err, Option, Result}
use Rattle.message.specs.Messages.{Msg}
use Rattle.broadcast.specs.Bags.{nth}
use Rattle.broadcast.specs.declared.faults.NotOrdered.{NotOrdered}
use Rattle.journal.specs.Judging.{Judged, accepted, stale, committed, late, again, Summary, judge, at, primary}
use Rattle.journal.specs.declared.verdicts.Judgement.{Judgement}
use Rattle.journal.specs.declared.verdicts.Judgement.TheVariants as judgement
use Rattle.journal.specs.declared.judging.Standing.{Standing}

abbrev pub judged_of : Judgement → Judged
judged_of judgement.Accepted = accepted
judged_of judgement.Stale = stale
judged_of judgement.Committed = committed
judged_of judgement.Late = late
judged_of (judgement.Again p) = again p

-- The judgement of the message at a position, where the log has one there.
abbrev pub judged_there : List Msg → ℕ → Option Msg → Option Judged
judged_there l p None = None
judged_there l p (Some m) = Some (judge (at l p) m)

-- The judgement of the message at p, or the refusal exactly where there is no message.
abbrev pub JudgesAt : List Msg → ℕ → Result Judgement NotOrdered → Type 0
JudgesAt l p (Ok j) = judged_there l p (nth l p) ≡ Some (judged_of j)
JudgesAt l p (Err e) = nth l p ≡ None

-- The primary, where there are servers.
abbrev pub Leads : Option ℕ → ℕ → ℕ → Type 0
Leads (Some i) n e = (0 < n) × (i ≡ primary n e)
Leads None n e = n ≡ 0

-- A pass over the log knows, for one client's job, what the front that it read comes to.
abbrev pub Knows : Standing → Summary → ℕ → ℕ → Type 0
Knows s j c k = (s.epoch ≡ j.epoch) × (s.earlier ≡ j.seen c k)
