-- The number of each refusal, and what a database's fault is to its server.
use Rattle.std.specs.Prelude.{ℕ}
use Rattle.replica.specs.declared.faults.Fault.{Fault}
use Rattle.replica.specs.declared.faults.Fault.TheVariants as database
use Rattle.pronto.specs.declared.faults.ServerFault.{ServerFault}
use Rattle.pronto.specs.declared.faults.ServerFault.TheVariants as server
use Rattle.pronto.specs.declared.refusals.Refusal.{Refusal}
use Rattle.pronto.specs.declared.refusals.Refusal.TheVariants as refusal

-- A busy database refuses a run, with the cell. Any other fault shows that it does not hold what the server's table says.
abbrev pub passed_up : Fault → ServerFault
passed_up (database.Busy cell) = server.Busy cell
passed_up database.NoCell = server.Torn
passed_up database.NoSlot = server.Torn
passed_up database.SlotOpen = server.Torn
passed_up database.SlotClosed = server.Torn
passed_up database.NotQuiet = server.Torn
passed_up database.LastPosition = server.Torn
passed_up database.NoDatabase = server.Torn

abbrev pub fault_number : ServerFault → ℕ
fault_number server.Stopped = 2
fault_number server.Running = 3
fault_number server.NoClient = 4
fault_number server.NoCell = 5
fault_number server.NotPrimary = 6
fault_number server.Barred = 7
fault_number server.AlreadyOpen = 8
fault_number server.Crowded = 9
fault_number server.NoTransaction = 10
fault_number server.Committing = 11
fault_number server.Long = 12
fault_number (server.Busy cell) = 13
fault_number server.AllDelivered = 16
fault_number server.Torn = 0

abbrev pub number_of : Refusal → ℕ
number_of refusal.NoServer = 1
number_of (refusal.Server i fault) = fault_number fault
number_of (refusal.Full i) = 14
number_of refusal.NothingWaits = 15
number_of refusal.NotOrdered = 17
