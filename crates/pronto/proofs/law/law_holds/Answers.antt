use Rattle.pronto.proofs.Holds.{law as the_law}
use Rattle.pronto.proofs.Origins.{told_so}
use Rattle.pronto.proofs.law.law_holds.Goals as goal

pub returns : goal.returns
returns c = record { law = the_law; told = told_so }
