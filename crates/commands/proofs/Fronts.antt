-- What follows the words of a target, and what follows the words of a command.
use Rattle.std.proofs.Common.{◌≡◌, ℕ, ◌+◌, Bool, true, false, List, [], ◌++◌, length, Some, Decides, sym, refl, ap, ◌∙◌, append-nil, arith, length-append}
use Rattle.std.specs.Bool.{then_some}
use Rattle.std.proofs.lemmas.Bool.{false≢true}
use Rattle.std.proofs.lemmas.List.{nil_from_length}
use Rattle.commands.specs.declared.openings.Opening.{Opening}
use Rattle.commands.specs.declared.openings.Opening.TheVariants as opening
use Rattle.commands.specs.declared.shapes.Target.{Target}
use Rattle.commands.specs.declared.shapes.Command.{Command}
use Rattle.commands.specs.declared.shapes.Command.TheVariants.{Order, Cell, Server, Job, Read, Store, Member}
use Rattle.commands.specs.Words.{opens_with, target_words, further_words, Proper}
use Rattle.commands.specs.Lines.{Unspelt, Spelt, SpeltInFront}

pub past_target :
    {was : List (List ℕ)} (s t : Target) {vs ws : List (List ℕ)} → was ≡ target_words s ++ vs → was ≡ target_words t ++ ws → vs ≡ ws
past_target s t p q = cc

-- all commands with an opening have as many words
abbrev many : Opening → ℕ
many opening.Order = 0
many opening.Cell = 2
many (opening.Server v) = 1
many (opening.Job v) = 3
many (opening.Read v) = 4
many (opening.Store v) = 5
many (opening.Member v) = 5

as_many : (c : Command) → length (further_words c) ≡ many (opens_with c)
as_many Order = refl
as_many (Cell server cell) = refl
as_many (Server v server) = refl
as_many (Job v t) = refl
as_many (Read v t cell) = refl
as_many (Store v t cell value) = refl
as_many (Member v t cell member) = refl

unspelt : (o : Opening) (ws : List (List ℕ)) → ((c : Command) → opens_with c ≡ o → Proper c → ws ≡ further_words c → ⊥) → Unspelt o ws
unspelt opening.Order ws h = h Order refl tt
unspelt opening.Cell ws h = λ server cell a b. h (Cell server cell) refl (a, b)
unspelt (opening.Server v) ws h = λ server a. h (Server v server) refl a
unspelt (opening.Job v) ws h = λ t a. h (Job v t) refl a
unspelt (opening.Read v) ws h = λ t cell a b. h (Read v t cell) refl (a, b)
unspelt (opening.Store v) ws h = λ t cell value a b d. h (Store v t cell value) refl (a, b, d)
unspelt (opening.Member v) ws h = λ t cell member a b d. h (Member v t cell member) refl (a, b, d)

-- a command in front is the whole where no word is left
pub whole :
    (o : Opening) (c : Command) (done : Bool) {was is : List (List ℕ)} → SpeltInFront o (Some c) was is → Decides done (is ≡ []) →
    Spelt o (then_some done c) was
whole o c true f d = (f.0, f.1, f.2 ∙ ap (λ ws. further_words c ++ ws) (d.0 refl) ∙ append-nil (further_words c))
whole o c false {was} {is} f d =
    unspelt o was
    (λ b e good g.
    let long = length-append (further_words c) is in
    let more : many (opens_with c) + length is ≡ many (opens_with b) = omega (arith, long, as_many c, as_many b, ap length (sym f.2 ∙ g)) in
    false≢true (d.1 (nil_from_length is (omega (arith, more, ap many (f.0 ∙ sym e))))))
