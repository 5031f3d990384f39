-- Which raw numbers make a statement.
use Rattle.std.specs.Prelude.{◌≡◌, ℕ, Bool, true, false, cond, Some, None, Ok, Err, Option, Result, nat_lt, refl}
use Rattle.std.proofs.Common.{ltb-true}
use Rattle.statement.specs.declared.operation.Operation.{Operation}
use Rattle.statement.specs.declared.operation.Operation.TheVariants.{Get, Set, Add, Take, Join, Leave, Heads}
use Rattle.statement.specs.Operations.{fits_member}
use Rattle.statement.specs.declared.checked.Missing.{Missing}
use Rattle.statement.specs.declared.checked.Missing.TheVariants.{Cell, Member}
use Rattle.statement.specs.declared.checked.Statement.{Statement}

-- The member that does not exist, where the operation names one.
abbrev pub missing_member : Operation → Option Missing
missing_member Get = None
missing_member (Set v) = None
missing_member (Add v) = None
missing_member (Take v) = None
missing_member (Join m) = cond (nat_lt m 64) None (Some (Member m))
missing_member (Leave m) = cond (nat_lt m 64) None (Some (Member m))
missing_member Heads = None

-- The cell that does not exist, or else the member.
abbrev pub missing : ℕ → Operation → Option Missing
missing c o = cond (nat_lt c 64) (missing_member o) (Some (Cell c))

-- The statement of these numbers, where they exist.
abbrev pub checked_at : (c : ℕ) (o : Operation) (a b : Bool) → nat_lt c 64 ≡ a → fits_member o ≡ b → Option Statement
checked_at c o true true low fits = Some (record { cell = c; operation = o; cell_fits = ltb-true c 64 low; member_fits = fits })
checked_at c o true false low fits = None
checked_at c o false b low fits = None

unfoldable pub checked : ℕ → Operation → Option Statement
checked c o = checked_at c o (nat_lt c 64) (fits_member o) refl refl

-- What a call that makes a statement answers: the statement of these numbers, exactly where none of them is missing.
abbrev pub Made : Result Statement Missing → ℕ → Operation → Type 0
Made (Ok s) c o = (missing c o ≡ None) × (s.cell ≡ c) × (s.operation ≡ o)
Made (Err e) c o = missing c o ≡ Some e
