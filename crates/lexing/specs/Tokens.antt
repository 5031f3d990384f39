-- What a token says of the words that were to come.
use Rattle.std.specs.Prelude.{◌≡◌, ℕ, List, [], ◌∷◌, Some, None, Option}
use Rattle.std.specs.Borrow.{Bor}
use Rattle.lexing.specs.declared.tokens.Token.{Token}
use Rattle.lexing.specs.declared.tokens.Token.TheVariants.{Number, Word, End}
use Rattle.lexing.specs.declared.tokens.Lexer.{Lexer}
use Rattle.lexing.specs.Forms as forms
use Rattle.lexing.specs.Parts.{parts}

abbrev pub left_of : Option (Bor (List ℕ)) → List (List ℕ)
left_of None = []
left_of (Some text) = parts 32 text.now

-- The words that are still to come.
abbrev pub left : Lexer → List (List ℕ)
left l = left_of l.rest

-- The token is the first of the words that were to come, with its line; or the end, where none was.
abbrev pub Gives : Token → ℕ → List (List ℕ) → List (List ℕ) → Type 0
Gives (Number text value at) line was is = (at ≡ line) × (was ≡ text.now ∷ is) × forms.Writes value text.now
Gives (Word text at) line was is = (at ≡ line) × (was ≡ text.now ∷ is) × forms.Word text.now
Gives (End at) line was is = (at ≡ line) × (was ≡ []) × (is ≡ [])
