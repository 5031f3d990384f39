-- The seven operations: which members exist, which count as writing, what each leaves in the cell and what it answers.
use Rattle.std.specs.Prelude.{ℕ, ◌+◌, ◌-◌, ◌/◌, ◌%◌, ◌^◌, Bool, true, false, cond, ◌==◌, bit_or, bit_xor, count_ones, nat_le, nat_lt}
use Rattle.statement.specs.declared.operation.Operation.{Operation}
use Rattle.statement.specs.declared.operation.Operation.TheVariants.{Get, Set, Add, Take, Join, Leave, Heads}

-- The operation names a member from 0 to 63, or none.
abbrev pub fits_member : Operation → Bool
fits_member Get = true
fits_member (Set v) = true
fits_member (Add v) = true
fits_member (Take v) = true
fits_member (Join m) = nat_lt m 64
fits_member (Leave m) = nat_lt m 64
fits_member Heads = true

-- The operation counts as writing, even where the cell stays as it is.
abbrev pub writes_cell : Operation → Bool
writes_cell Get = false
writes_cell (Set v) = true
writes_cell (Add v) = true
writes_cell (Take v) = true
writes_cell (Join m) = true
writes_cell (Leave m) = true
writes_cell Heads = false

-- Bit m of x, bit 0 being the lowest.
abbrev pub has_bit : ℕ → ℕ → Bool
has_bit x m = x / 2 ^ m % 2 == 1

-- What the cell holds afterwards, where it held x.
abbrev pub changed : Operation → ℕ → ℕ
changed Get x = x
changed (Set v) x = v
changed (Add v) x = (x + v) % 2 ^ 64
changed (Take v) x = cond (nat_le v x) (x - v) x
changed (Join m) x = cond (has_bit x m) x (bit_or x (2 ^ m))
changed (Leave m) x = cond (has_bit x m) (bit_xor x (2 ^ m)) x
changed Heads x = x

-- What the operation answers, where the cell held x.
abbrev pub answered : Operation → ℕ → ℕ
answered Get x = x
answered (Set v) x = x
answered (Add v) x = (x + v) % 2 ^ 64
answered (Take v) x = cond (nat_le v x) 1 0
answered (Join m) x = cond (has_bit x m) 0 1
answered (Leave m) x = cond (has_bit x m) 1 0
answered Heads x = count_ones x
