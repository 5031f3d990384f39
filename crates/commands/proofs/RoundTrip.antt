-- A line is read as the command that is written so.
use Rattle.std.proofs.Common.{◌≡◌, ℕ, ◌^◌, ◌<◌, List, [], ◌∷◌, ◌++◌, Some, None, decimal, Option, sym, ap, ◌∙◌, subst, arith}
use Rattle.lexing.specs.Parts.{parts, joined, Free, AllFree}
use Rattle.lexing.proofs.Cuts.{parts_joined, joined_parts, joined_free}
use Rattle.lexing.proofs.Digits.{number_free, name_free}
use Rattle.lexing.proofs.Heads.{head_same, tail_same}
use Rattle.commands.specs.declared.openings.Opening.{Opening}
use Rattle.commands.specs.declared.shapes.Target.{Target}
use Rattle.commands.specs.declared.shapes.Command.{Command}
use Rattle.commands.specs.declared.shapes.Command.TheVariants.{Order, Cell, Server, Job, Read, Store, Member}
use Rattle.commands.specs.Words.{opening_text, opens_with, target_words, further_words, words_of, Aimed, Proper}
use Rattle.commands.specs.Lines.{written, Reads, Unspelt, Spelt}
use Rattle.commands.proofs.FirstWords.{same_opening, opening_free}

-- no command with this opening has these further words
pub no_command : (o : Opening) (ws : List (List ℕ)) → Unspelt o ws → (c : Command) → opens_with c ≡ o → Proper c → ws ≡ further_words c → ⊥
no_command o ws u Order e good f = subst (λ (p : Opening). Unspelt p ws) (sym e) u f
no_command o ws u (Cell server cell) e good f = subst (λ (p : Opening). Unspelt p ws) (sym e) u server cell good.0 good.1 f
no_command o ws u (Server v server) e good f = subst (λ (p : Opening). Unspelt p ws) (sym e) u server good f
no_command o ws u (Job v t) e good f = subst (λ (p : Opening). Unspelt p ws) (sym e) u t good f
no_command o ws u (Read v t cell) e good f = subst (λ (p : Opening). Unspelt p ws) (sym e) u t cell good.0 good.1 f
no_command o ws u (Store v t cell value) e good f = subst (λ (p : Opening). Unspelt p ws) (sym e) u t cell value good.0 good.1 good.2 f
no_command o ws u (Member v t cell member) e good f = subst (λ (p : Opening). Unspelt p ws) (sym e) u t cell member good.0 good.1 good.2 f

-- a byte below the digits is in no word of a command
target_free : (b : ℕ) → b < 48 → (t : Target) (ws : List (List ℕ)) → Aimed t → AllFree b ws → AllFree b (target_words t ++ ws)
target_free b low t ws good f =
    (number_free b t.server low (omega (arith, good.server)), (name_free b _ low good.name, (number_free b t.job low (omega (arith, good.job)), f)))

small_free : (b n : ℕ) → b < 48 → n < 10 ^ 18 → AllFree b (decimal n ∷ [])
small_free b n low h = (number_free b n low h, tt)

further_free : (b : ℕ) → b < 48 → (c : Command) → Proper c → AllFree b (further_words c)
further_free b low Order good = tt
further_free b low (Cell server cell) good = (number_free b server low (omega (arith, good.0)), small_free b cell low (omega (arith, good.1)))
further_free b low (Server v server) good = small_free b server low (omega arith)
further_free b low (Job v t) good = target_free b low t [] good tt
further_free b low (Read v t cell) good = target_free b low t (decimal cell ∷ []) good.0 (small_free b cell low (omega (arith, good.1)))
further_free b low (Store v t cell value) good =
    target_free b low t (decimal cell ∷ decimal value ∷ []) good.0 (number_free b cell low (omega (arith, good.1)), small_free b value low (omega (arith, good.2)))
further_free b low (Member v t cell member) good =
    target_free b low t (decimal cell ∷ decimal member ∷ []) good.0 (number_free b cell low (omega (arith, good.1)), small_free b member low (omega (arith, good.2)))

words_free : (b : ℕ) → b < 48 → (c : Command) → Proper c → AllFree b (words_of c)
words_free b low c good = (opening_free b (omega arith) (opens_with c), further_free b low c good)

-- a written command is one line
pub line_free : (c : Command) → Proper c → Free 10 (written c)
line_free c good = joined_free 10 32 (λ e. omega arith) (words_of c) (words_free 10 (omega arith) c good)

-- the parts of a written command are its words
pub command_parts : (c : Command) → Proper c → parts 32 (written c) ≡ words_of c
command_parts c good = parts_joined 32 _ _ (words_free 32 (omega arith) c good)

pub reads_back : (o : Opening) (r : Option Command) (bs : List ℕ) {w : List ℕ} {ws : List (List ℕ)} → parts 32 bs ≡ w ∷ ws → w ≡ opening_text o → Spelt o r ws → Reads r bs
reads_back o None bs {w} {ws} p f u = λ c good e.
    let q : parts 32 bs ≡ words_of c = ap (parts 32) e ∙ command_parts c good in
    no_command o ws u c (sym (same_opening o (opens_with c) (sym f ∙ head_same p q))) good (tail_same p q)
reads_back o (Some c) bs {w} {ws} p f u =
    (u.1, sym (joined_parts 32 bs) ∙ ap (joined 32) (p ∙ (λ i. (f ∙ ap opening_text (sym u.0)) i ∷ u.2 i)))

-- what begins with no opening is no command
pub no_opening : (bs : List ℕ) → ((o : Opening) (ws : List (List ℕ)) → parts 32 bs ≡ opening_text o ∷ ws → ⊥) → Reads None bs
no_opening bs h c good e = h (opens_with c) (further_words c) (ap (parts 32) e ∙ command_parts c good)
