-- What playing a list of acts does, with the law.
use Rattle.std.specs.Prelude.{◌≡◌, ℕ, ◌+◌, ◌-◌, ◌<◌, ◌≤◌, List, ◌++◌, map, length, Ok, Err, Result}
use Rattle.replica.specs.Meanings.{Meaning}
use Rattle.broadcast.specs.declared.broadcasts.Broadcast as cast
use Rattle.bank.specs.declared.banks.ReplicaBank as replicas
use Rattle.bank.specs.declared.banks.DatabaseBank as databases
use Rattle.pronto.specs.States.{State, new_state}
use Rattle.pronto.specs.Steps.{LeadsTo}
use Rattle.pronto.specs.Histories.{History}
use Rattle.pronto.specs.Law.{Lawful, LawfulOn}
use Rattle.pronto.specs.declared.acts.Act.{Act}
use Rattle.pronto.specs.declared.acts.Entry.{Entry}
use Rattle.ensemble.specs.Whole.{state}
use Rattle.ensemble.specs.Making.{Possible}
use Rattle.playing.specs.declared.plays.NoRoom.{NoRoom}
use Rattle.ensemble.specs.declared.ensembles.Ensemble.{Ensemble}
use Rattle.ensemble.specs.declared.ensembles.making.Unmade.{Unmade}
use Rattle.playing.specs.declared.plays.Unplayed.{Unplayed}
use Rattle.playing.specs.declared.plays.Unplayed.TheVariants as unplayed

abbrev pub act_of : Entry → Act
act_of x = x.act

-- The acts were played from s to s', and what they answered was added to the history. Where acts led from a new ensemble to s, the law
-- holds at both moments.
pub record Played (acts : List Act) (before after : History) (s s' : State) : Type 0 where
  pub added : History
  pub history : after ≡ before ++ added
  pub acts_played : map act_of added ≡ acts
  pub leads : LeadsTo s added s'
  pub law : (capacity n databases : ℕ) (units : ℕ → ℕ → ℕ) (spare : ℕ → Meaning) → n ≤ databases → capacity ≤ 4096 →
      (h : History) → LeadsTo (new_state capacity n databases units spare) h s → LawfulOn h added s s'

-- Played, exactly where the history has room for the acts beside the `used` entries; otherwise nothing has changed.
abbrev pub Plays : Result (Unit {0}) NoRoom → List Act → ℕ → ℕ → History → History → State → State → Type 0
Plays (Ok u) acts used room before after s s' = (used + length acts ≤ room) × Played acts before after s s'
Plays (Err e) acts used room before after s s' = (room < used + length acts) × (after ≡ before) × (s' ≡ s)

-- Played on a new ensemble, with these entries added to the history: the law holds at the end and at every moment on the way.
pub record PlayedNew (new : State) (acts : List Act) (before after : History) (s : State) : Type 0 where
  pub added : History
  pub history : after ≡ before ++ added
  pub acts_played : map act_of added ≡ acts
  pub leads : LeadsTo new added s
  pub law : Lawful added s
  pub moments : (h h' : History) → added ≡ h ++ h' → (m : State) × LeadsTo new h m × LawfulOn h h' m s

module _ {B K : Type 0} (b : cast.Ghosts B) (k : replicas.Ghosts K) (d : databases.Ghosts K) (broadcast : B) (bank : K) (n : ℕ) (acts : List Act) (used room : ℕ) (before after : History) where
  -- Handed back unused, with the history as it was.
  abbrev pub Unused : Unmade B K → Type 0
  Unused u = (u.broadcast ≡ broadcast) × (u.bank ≡ bank) × (after ≡ before)

  -- A new ensemble of n servers was played on, exactly where the history has room for the acts beside the `used` entries and such an
  -- ensemble is possible.
  abbrev pub NewPlayed : Result (Ensemble B K) (Unplayed B K) → Type 0
  NewPlayed (Ok e) =
      (used + length acts ≤ room)
      × Possible n k.size
      × PlayedNew (new_state (b.capacity broadcast) n k.size (λ i. d.units (i - 1)) (λ q. k.meanings bank (n + q))) acts before after (state b k d e)
  NewPlayed (Err (unplayed.Room u)) = (room < used + length acts) × Unused u
  NewPlayed (Err (unplayed.Servers u)) = (used + length acts ≤ room) × (Possible n k.size → ⊥) × Unused u
