use Rattle.run_file.proofs.OneFault.{one_fault, no_fault}
use Rattle.run_file.proofs.OneReading.{one_reading}
use Rattle.run_file.proofs.theorems.one_answer.Goals as goal

pub returns : goal.returns
returns c = record { fault = one_fault; file = no_fault; reading = one_reading }
