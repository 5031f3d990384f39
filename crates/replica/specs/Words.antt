-- A refusal in words.
use Rattle.std.specs.Prelude.{ℕ, List, ◌++◌, codes, decimal}
use Rattle.replica.specs.declared.faults.Fault.{Fault}
use Rattle.replica.specs.declared.faults.Fault.TheVariants.{NoCell, NoSlot, SlotOpen, SlotClosed, Busy, NotQuiet, LastPosition, NoDatabase}

abbrev pub fault_words : Fault → List ℕ
fault_words NoCell = codes "no such cell"
fault_words NoSlot = codes "no such slot"
fault_words SlotOpen = codes "slot open"
fault_words SlotClosed = codes "slot closed"
fault_words (Busy c) = codes "busy at cell " ++ decimal c
fault_words NotQuiet = codes "not quiet"
fault_words LastPosition = codes "last position"
fault_words NoDatabase = codes "no such database"
