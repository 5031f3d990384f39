-- The written form of a command.
use Rattle.std.specs.Prelude.{◌≡◌, ℕ, ◌≤◌, List, [], ◌∷◌, ◌++◌, decimal, Option, MatchOption, ◌≢◌}
use Rattle.lexing.specs.Parts.{joined}
use Rattle.commands.specs.declared.openings.Opening.{Opening}
use Rattle.commands.specs.declared.openings.Opening.TheVariants as opening
use Rattle.commands.specs.declared.shapes.Target.{Target}
use Rattle.commands.specs.declared.shapes.Command.{Command}
use Rattle.commands.specs.Words.{opens_with, target_words, place_words, further_words, words_of, Aimed, Proper}

-- A command's line: its words with one space between them.
abbrev pub written : Command → List ℕ
written c = joined 32 (words_of c)

-- r is the command that is written so, or None where none is.
abbrev pub Reads : Option Command → List ℕ → Type 0
Reads r bs = MatchOption r ((c : Command) → Proper c → bs ≢ written c) (λ c. Proper c × (bs ≡ written c))

-- No command with this opening has these further words.
abbrev pub Unspelt : Opening → List (List ℕ) → Type 0
Unspelt opening.Order ws = ws ≡ [] → ⊥
Unspelt opening.Cell ws = (server cell : ℕ) → server ≤ 255 → cell ≤ 255 → ws ≢ decimal server ∷ decimal cell ∷ []
Unspelt (opening.Server v) ws = (server : ℕ) → server ≤ 255 → ws ≢ decimal server ∷ []
Unspelt (opening.Job v) ws = (t : Target) → Aimed t → ws ≢ target_words t
Unspelt (opening.Read v) ws = (t : Target) (cell : ℕ) → Aimed t → cell ≤ 255 → ws ≢ place_words t cell
Unspelt (opening.Store v) ws = (t : Target) (cell value : ℕ) → Aimed t → cell ≤ 255 → value ≤ 999999999999999999 → ws ≢ place_words t cell ++ decimal value ∷ []
Unspelt (opening.Member v) ws = (t : Target) (cell member : ℕ) → Aimed t → cell ≤ 255 → member ≤ 255 → ws ≢ place_words t cell ++ decimal member ∷ []

-- Of the commands with this opening, r is the one that has these further words, or None.
abbrev pub Spelt : Opening → Option Command → List (List ℕ) → Type 0
Spelt o r ws = MatchOption r (Unspelt o ws) (λ c. (opens_with c ≡ o) × Proper c × (ws ≡ further_words c))

-- Of the commands with this opening, r is the one whose further words stand in front of `was`, with `is` left; or None, where none has those words.
abbrev pub SpeltInFront : Opening → Option Command → List (List ℕ) → List (List ℕ) → Type 0
SpeltInFront o r was is = MatchOption r (Unspelt o was) (λ c. (opens_with c ≡ o) × Proper c × (was ≡ further_words c ++ is))
