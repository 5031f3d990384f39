-- Text that is written into a lent buffer.
use Rattle.std.specs.Prelude.{◌≡◌, ℕ, ◌+◌, ◌≤◌, List, ◌++◌, length, take, drop}
use Rattle.stepping.specs.declared.putting.LineWriter.{LineWriter}

-- Of a buffer that held `old` the first n bytes are now `text`, and the others are as they were.
abbrev pub Filled : List ℕ → List ℕ → ℕ → List ℕ → Type 0
Filled old new n text = (n ≡ length text) × (new ≡ text ++ drop n old)

-- From `at` up to n the buffer now holds `text`, and the bytes before and after are as they were.
pub record Adds (old : List ℕ) (at : ℕ) (text new : List ℕ) (n : ℕ) : Type 0 where
  pub end : n ≡ at + length text
  pub within : n ≤ length old
  pub holds : new ≡ take at old ++ text ++ drop n old

-- A writer has room for so many bytes.
abbrev pub HasRoom : LineWriter → ℕ → Type 0
HasRoom w n = w.at + n ≤ length w.line.now

-- A writer added a text at its place, and still writes into the same buffer.
pub record Wrote (old : LineWriter) (text : List ℕ) (new : LineWriter) : Type 0 where
  pub adds : Adds old.line.now old.at text new.line.now new.at
  pub same_length : length new.line.now ≡ length old.line.now
  pub same_reference : new.line.ghost_name ≡ old.line.ghost_name
