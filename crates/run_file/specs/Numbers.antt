-- The number of each fault of a file.
use Rattle.std.specs.Prelude.{ℕ}
use Rattle.run_file.specs.declared.faults.Why.{Why}
use Rattle.run_file.specs.declared.faults.Why.TheVariants as why

abbrev pub why_number : Why → ℕ
why_number why.TooLong = 20
why_number why.Head = 21
why_number why.Name = 22
why_number why.Step = 23
why_number why.Unlisted = 24
why_number why.Leftover = 25
