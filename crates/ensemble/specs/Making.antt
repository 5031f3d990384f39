-- Making an ensemble.
use Rattle.std.specs.Prelude.{◌≡◌, ℕ, ◌+◌, ◌-◌, ◌≤◌, Ok, Err, Result}
use Rattle.broadcast.specs.declared.broadcasts.Broadcast as cast
use Rattle.bank.specs.declared.banks.ReplicaBank as replicas
use Rattle.bank.specs.declared.banks.DatabaseBank as databases
use Rattle.pronto.specs.States.{new_state}
use Rattle.ensemble.specs.declared.ensembles.Ensemble.{Ensemble}
use Rattle.ensemble.specs.declared.ensembles.making.Unmade.{Unmade}
use Rattle.ensemble.specs.Whole.{state}

-- There are 1 to 8 servers, and a database for each.
abbrev pub Possible : ℕ → ℕ → Type 0
Possible n size = (1 ≤ n) × (n ≤ 8) × (n ≤ size)

module _ {B K : Type 0} (b : cast.Ghosts B) (k : replicas.Ghosts K) (d : databases.Ghosts K) (broadcast : B) (bank : K) (n : ℕ) where
  -- A new ensemble, exactly where it is possible; the databases past the first n stay as they were. Otherwise both are handed back.
  abbrev pub Makes : Result (Ensemble B K) (Unmade B K) → Type 0
  Makes (Ok e) = Possible n k.size × (state b k d e ≡ new_state (b.capacity broadcast) n k.size (λ i. d.units (i - 1)) (λ p. k.meanings bank (n + p)))
  Makes (Err u) = (Possible n k.size → ⊥) × (u.broadcast ≡ broadcast) × (u.bank ≡ bank)
