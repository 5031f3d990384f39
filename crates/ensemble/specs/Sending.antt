-- Offering a message of a server, and counting it.
use Rattle.std.specs.Prelude.{◌≡◌, ℕ, ◌+◌, ◌%◌, ◌^◌, ◌<◌, ◌≤◌, List, length, Ok, Err, Result}
use Rattle.message.specs.Messages.{Msg}
use Rattle.broadcast.specs.Bags.{Inserted}
use Rattle.pronto.specs.declared.refusals.Refusal.{Refusal}
use Rattle.pronto.specs.declared.refusals.Refusal.TheVariants as refusal

-- The message waits and is counted, or the broadcast is full and nothing changes.
abbrev pub Sends : ℕ → Msg → ℕ → List Msg → List Msg → List Msg → ℕ → ℕ → Result (Unit {0}) Refusal → Type 0
Sends i m capacity log waiting waiting' sent sent' (Ok u) = (length log + length waiting < capacity) × Inserted m waiting waiting' × (sent' ≡ (sent + 1) % 2 ^ 64)
Sends i m capacity log waiting waiting' sent sent' (Err e) = (capacity ≤ length log + length waiting) × (waiting' ≡ waiting) × (sent' ≡ sent) × (e ≡ refusal.Full i)
