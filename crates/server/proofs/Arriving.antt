-- What it says of a transaction's state that it goes on when an act asks something of it.
use Rattle.std.proofs.Common.{◌≡◌, true, false, Ok, refl}
use Rattle.server.specs.declared.states.State.{State}
use Rattle.server.specs.declared.states.State.TheVariants.{Executing, Committing}
use Rattle.server.specs.declared.states.Arrival.{Arrival}
use Rattle.server.specs.declared.states.Arrival.TheVariants.{Run, Commit, Abort, Delivered}
use Rattle.server.specs.declared.states.Outcome.{Outcome}
use Rattle.server.specs.Outcomes.{outcome_of, asks, is_committing}

pub goes_on : (s : State) (a : Arrival) (x : Outcome) → asks a ≡ true → outcome_of s a ≡ Ok x → (is_committing s ≡ false) × (outcome_of Executing a ≡ Ok x)
goes_on Executing a x q h = (refl, h)
goes_on Committing Run x q h = absurd (cc)
goes_on Committing Commit x q h = absurd (cc)
goes_on Committing Abort x q h = absurd (cc)
goes_on Committing Delivered x q h = absurd (cc)
