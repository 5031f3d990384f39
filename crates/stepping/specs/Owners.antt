-- What is written of an owner.
use Rattle.std.specs.Prelude.{ℕ, List, [], ◌++◌, Some, None, codes, decimal, Option}
use Rattle.stepping.specs.declared.owners.Owner.{Owner}

-- The client's name and the job; nothing where there is no owner.
abbrev pub told_owner : Option Owner → List ℕ
told_owner None = []
told_owner (Some o) = o.name.now ++ codes " " ++ decimal o.job
