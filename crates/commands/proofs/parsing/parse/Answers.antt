use Rattle.std.proofs.Common.{sym, ◌∙◌}
use Rattle.commands.specs.Words.{opening_text}
use Rattle.commands.proofs.FirstWords.{opening_word}
use Rattle.commands.proofs.Fronts.{whole}
use Rattle.commands.proofs.RoundTrip.{reads_back, no_opening}
use Rattle.commands.proofs.parsing.parse.Goals as goal

pub returns-in_err-word : goal.returns-in_err-word
returns-in_err-word c =
    let none = no_opening _ (λ o ws e. c.in_err-word.ensures.takes (opening_text o) ws (opening_word o) (c.new-words.ensures.words ∙ e)) in
    rw c.from_residual.ensures none

pub returns-in_err-command : goal.returns-in_err-command
returns-in_err-command c =
    let front = sym c.new-words.ensures.words ∙ c.in_ok-word.ensures.takes.1 in
    reads_back c.in_ok-opening.opening c.from_residual-in_err-command.result c.args.line.now front c.in_ok-opening.ensures
    (rw c.from_residual-in_err-command.ensures c.in_err-command.ensures)

pub returns : goal.returns
returns c =
    let front = sym c.new-words.ensures.words ∙ c.in_ok-word.ensures.takes.1 in
    reads_back c.in_ok-opening.opening c.then_some.result c.args.line.now front c.in_ok-opening.ensures
    (rw c.then_some.ensures
    (whole c.in_ok-opening.opening c.in_ok-command.command c.is_done.result c.in_ok-command.ensures c.is_done.ensures))
