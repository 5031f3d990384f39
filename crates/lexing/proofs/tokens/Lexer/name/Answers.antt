use Rattle.std.proofs.Common.{◌≡◌, ℕ, Bool, true, false, List, [], ◌∷◌, Some, None, Option, MatchOption, Decides, sym, refl, subst, Bor, rules}
use Rattle.std.specs.Bool.{then_some}
use Rattle.std.proofs.lemmas.Bool.{false≢true}
use Rattle.std.specs.Option.{option_map}
use Rattle.lexing.specs.Forms.{Name, Word}
use Rattle.lexing.specs.Takes.{Takes}
use Rattle.lexing.proofs.Digits.{no_letter}
use Rattle.lexing.proofs.Heads.{head_same}
use Rattle.lexing.proofs.tokens.Lexer.name.Goals as goal

abbrev Text : Type 0
Text = Bor (List ℕ)

abbrev TakesText : (List ℕ → Type 0) → Option Text → List (List ℕ) → List (List ℕ) → Type 0
TakesText Good r was is = Takes Good (λ t. t ∷ []) (option_map (λ x. x.now) r) was is

-- a word that is kept where it is a name
kept : (t : Text) (b : Bool) {was is : List (List ℕ)} → Decides b (Name t.now) → was ≡ t.now ∷ is → TakesText Name (then_some b t) was is
kept t true d e = (d.0 refl, e)
kept t false d e = λ x ws good f. false≢true (d.1 (subst Name (head_same f e) good))

named :
    (o : Option Text) (Gives : Text → Bool → Type 0) → ((t : Text) (b : Bool) → Gives t b → Decides b (Name t.now)) → (r : Option Text)
    (was is : List (List ℕ)) → TakesText Word o was is → MatchOption o (r ≡ None) (λ t. (b : Bool) × Gives t b × (r ≡ then_some b t)) →
    TakesText Name r was is
named None Gives told r was is h e =
    subst (λ (q : Option Text). TakesText Name q was is) (sym e)
    (λ x ws good f. h x ws (λ n w. no_letter n x w (good.letters 0 good.some).0) f)
named (Some t) Gives told r was is h e =
    subst (λ (q : Option Text). TakesText Name q was is) (sym e.2) (kept t e.0 (told t e.0 e.1) h.1)

pub returns-clause-takes : goal.returns-clause-takes
returns-clause-takes c = named c.word.result _ (λ t b p. search rules) _ _ _ c.word.ensures.takes c.filter.ensures
