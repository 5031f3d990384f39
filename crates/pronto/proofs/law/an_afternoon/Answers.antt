use Rattle.pronto.proofs.Afternoon.{an_afternoon}
use Rattle.pronto.proofs.Playing.{answered}
use Rattle.pronto.proofs.law.an_afternoon.Goals as goal

pub returns : goal.returns
returns c = record { answered = answered; played = an_afternoon }
