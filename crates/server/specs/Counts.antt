-- Which numbers are a number of servers.
use Rattle.std.specs.Prelude.{◌≡◌, ℕ, ◌≤◌, Some, None, Option}
use Rattle.server.specs.declared.counts.ServerCount.{ServerCount}

-- That many servers, exactly where there are 1 to 8.
abbrev pub Counted : Option ServerCount → ℕ → Type 0
Counted (Some x) n = (1 ≤ n) × (n ≤ 8) × (x.count ≡ n)
Counted None n = 1 ≤ n → n ≤ 8 → ⊥
