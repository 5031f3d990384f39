use Rattle.std.proofs.Common.{◌≡◌, ℕ, List, [], ◌∷◌, ◌++◌, map, length, vec_items, sym, ap, ◌∙◌, subst, arith, length-append}
use Rattle.std.proofs.lemmas.Bool.{eqb-false}
use Rattle.std.proofs.lemmas.Option.{MatchOption-at_none, MatchOption-at_some}
use Rattle.std.proofs.lemmas.Result.{err_from_is_err_and}
use Rattle.run_file.specs.declared.steps.Line.{Line}
use Rattle.run_file.specs.Texts.{texts}
use Rattle.run_file.specs.Form.{ended}
use Rattle.run_file.specs.Outcomes.{own, Says, AllSay}
use Rattle.run_file.proofs.Exits.{was_none, was_some}
use Rattle.run_file.proofs.Growing.{map_more, ended_more, say_more, no_command_free, no_command_line, no_command_stops, unlisted_stops, leftover_stops}
use Rattle.run_file.proofs.reader.read_steps.Goals as goal

pub returns-in_err-line-clause-read : goal.returns-in_err-line-clause-read
returns-in_err-line-clause-read c =
    let inv = c.loop-number.invariant in
    let p = err_from_is_err_and c.from_residual.result c.from_residual.ensures.1 in
    let w = was_none c.cut.result _ _ c.in_err-line.ensures.value in
    let none = no_command_free _ (MatchOption-at_none _ _ w.0 c.cut.ensures.text) in
    rw (p.1, p.2, w.1, c.at.ensures) (no_command_stops _ _ _ _ _ (vec_items c.loop-number.lines) _ inv.good inv.split inv.place (omega arith) none)

pub returns-in_err-command-clause-read : goal.returns-in_err-command-clause-read
returns-in_err-command-clause-read c =
    let inv = c.loop-number.invariant in
    let p = err_from_is_err_and c.from_residual-in_err-command.result c.from_residual-in_err-command.ensures.1 in
    let cuts = MatchOption-at_some _ _ _ (was_some c.cut.result _ _ c.in_ok-line.ensures.value) c.cut.ensures.text in
    let w = was_none c.parse.result _ _ c.in_err-command.ensures.value in
    let none = no_command_line _ _ cuts.0 cuts.1 (MatchOption-at_none _ _ w.0 c.parse.ensures) in
    rw (p.1, p.2, w.1, c.at-in-loop-number.ensures)
    (no_command_stops _ _ _ _ _ (vec_items c.loop-number.lines) _ inv.good inv.split inv.place (omega arith) none)

pub returns-in_err-step-clause-read : goal.returns-in_err-step-clause-read
returns-in_err-step-clause-read c =
    let inv = c.loop-number.invariant in
    let p = err_from_is_err_and c.from_residual-in_err-step.result c.from_residual-in_err-step.ensures.1 in
    let cuts = MatchOption-at_some _ _ _ (was_some c.cut.result _ _ c.in_ok-line.ensures.value) c.cut.ensures.text in
    let said = MatchOption-at_some _ _ _ (was_some c.parse.result _ _ c.in_ok-command.ensures.value) c.parse.ensures in
    let w = was_none c.step.result _ _ c.in_err-step.ensures.value in
    let none = MatchOption-at_none _ _ w.0 c.step.ensures in
    rw (p.1, p.2, w.1, c.at-in-loop-number-2.ensures)
    (unlisted_stops _ _ _ _ _ (vec_items c.loop-number.lines) _ _ c.in_ok-command.command inv.good inv.split inv.place (omega arith) cuts.0 cuts.1
    said.0 said.1 none)

pub loop-number-preserved : goal.loop-number-preserved
loop-number-preserved c =
    let inv = c.loop-number.invariant in
    let ls = vec_items c.loop-number.lines in
    let ns = texts c.args.clients.names.now in
    let cuts = MatchOption-at_some _ _ _ (was_some c.cut.result _ _ c.in_ok-line.ensures.value) c.cut.ensures.text in
    let said = MatchOption-at_some _ _ _ (was_some c.parse.result _ _ c.in_ok-command.ensures.value) c.parse.ensures in
    let meant = MatchOption-at_some _ _ _ (was_some c.step.result _ _ c.in_ok-step.ensures.value) c.step.ensures in
    let l : Line = record { text = c.in_ok-line.line; step = c.in_ok-step.step } in
    let items : vec_items c.push_reserved.new.self ≡ ls ++ l ∷ [] = c.push_reserved.ensures.items in
    let says : Says ns (own l) l.step =
    record { command = c.in_ok-command.command; client = meant.0; proper = said.0; listed = meant.1; is = said.1; step = meant.2 } in
    record {
      place = omega (arith, ap length items, length-append ls (l ∷ []), inv.place);
      good = subst (AllSay ns) (sym items) (say_more ns ls l inv.good says);
      split =
          ended_more (map own ls) _ _ inv.split cuts.1
          ∙ ap (λ (ks : List (List ℕ)). ended ks c.in_ok-line.after.now) (sym (ap (map own) items ∙ map_more own ls l));
      room = omega (arith, c.push_reserved.ensures.capacity, inv.room);
    }

pub returns-then-not-is_empty-clause-read : goal.returns-then-not-is_empty-clause-read
returns-then-not-is_empty-clause-read c =
    let inv = c.loop-number.invariant in
    rw c.at-then-not-is_empty.ensures
    (leftover_stops _ _ _ _ _ (vec_items c.loop-number.lines) _ inv.good inv.split (omega arith) (omega arith)
    (λ e. eqb-false _ 0 (sym c.if-not-is_empty.ensures) (ap length e)))
