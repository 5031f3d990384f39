-- How long the parts of an answer are.
use Rattle.std.proofs.Common.{◌≡◌, ℕ, ◌^◌, ◌<◌, ◌≤◌, length, decimal, arith, lit<}
use Rattle.std.proofs.lemmas.Fmt.{length-decimal-le}
use Rattle.pronto.specs.Numbers.{fault_number, number_of}
use Rattle.pronto.specs.declared.faults.ServerFault.{ServerFault}
use Rattle.pronto.specs.declared.faults.ServerFault.TheVariants as fault
use Rattle.pronto.specs.declared.refusals.Refusal.{Refusal}
use Rattle.pronto.specs.declared.refusals.Refusal.TheVariants as refusal

pub digits_2 : (n : ℕ) → n < 100 → length (decimal n) ≤ 2
digits_2 n h = length-decimal-le 2 n (omega arith) h (omega arith)

pub digits_10 : (n : ℕ) → n < 2 ^ 32 → length (decimal n) ≤ 10
digits_10 n h = length-decimal-le 10 n (omega arith) (omega arith) (omega arith)

pub digits_20 : (n : ℕ) → n < 2 ^ 64 → length (decimal n) ≤ 20
digits_20 n h = length-decimal-le 20 n (omega arith) (omega arith) h

fault_small : (e : ServerFault) → fault_number e < 100
fault_small fault.Stopped = lit< tt
fault_small fault.Running = lit< tt
fault_small fault.NoClient = lit< tt
fault_small fault.NoCell = lit< tt
fault_small fault.NotPrimary = lit< tt
fault_small fault.Barred = lit< tt
fault_small fault.AlreadyOpen = lit< tt
fault_small fault.Crowded = lit< tt
fault_small fault.NoTransaction = lit< tt
fault_small fault.Committing = lit< tt
fault_small fault.Long = lit< tt
fault_small (fault.Busy cell) = lit< tt
fault_small fault.AllDelivered = lit< tt
fault_small fault.Torn = lit< tt

number_small : (e : Refusal) → number_of e < 100
number_small refusal.NoServer = lit< tt
number_small (refusal.Server i e) = fault_small e
number_small (refusal.Full i) = lit< tt
number_small refusal.NothingWaits = lit< tt
number_small refusal.NotOrdered = lit< tt

-- the number of a refusal has at most two digits
pub refusal_digits : (e : Refusal) (n : ℕ) → n ≡ number_of e → length (decimal n) ≤ 2
refusal_digits e n h = digits_2 n (omega (arith, h, number_small e))
