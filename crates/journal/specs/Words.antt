-- A judgement as text.
use Rattle.std.specs.Prelude.{ℕ, List, ◌++◌, codes, decimal}
use Rattle.journal.specs.declared.verdicts.Judgement.{Judgement}
use Rattle.journal.specs.declared.verdicts.Judgement.TheVariants.{Accepted, Stale, Committed, Late, Again}

abbrev pub judgement_words : Judgement → List ℕ
judgement_words Accepted = codes "epoch"
judgement_words Stale = codes "stale"
judgement_words Committed = codes "commit"
judgement_words Late = codes "late"
judgement_words (Again p) = codes "again " ++ decimal p
