use Rattle.std.proofs.Common.{◌≡◌, ℕ, List, [], ◌∷◌, ◌++◌, length, vec_items, sym, ap, ◌∙◌, subst, arith, length-append, Bor}
use Rattle.std.proofs.lemmas.Bool.{false≢true}
use Rattle.std.proofs.lemmas.Option.{MatchOption-at_none, MatchOption-at_some}
use Rattle.std.proofs.lemmas.Result.{err_from_is_err_and}
use Rattle.lexing.specs.Forms as forms
use Rattle.lexing.proofs.Digits.{name_free}
use Rattle.run_file.specs.Texts.{text_of, texts}
use Rattle.run_file.specs.Form.{ended, Apart, AllNames}
use Rattle.run_file.proofs.Exits.{was_none, was_some}
use Rattle.run_file.proofs.Growing.{map_more, ended_more, names_more, no_line, bad_line, names_stop}
use Rattle.run_file.proofs.reader.read_names.Goals as goal

pub returns-in_err-name-clause-read : goal.returns-in_err-name-clause-read
returns-in_err-name-clause-read c =
    let inv = c.loop-line.invariant in
    let p = err_from_is_err_and c.from_residual.result c.from_residual.ensures.1 in
    let w = was_none c.cut.result _ _ c.in_err-name.ensures.value in
    let free = MatchOption-at_none _ _ w.0 c.cut.ensures.text in
    rw (p.1, p.2, w.1, c.at.ensures) (names_stop _ _ _ (vec_items c.loop-line.names) _ inv.good inv.split inv.place (omega arith) (no_line _ _ free))

-- what is fresh among the slice is fresh among the names
abbrev Fresh : List ℕ → List (Bor (List ℕ)) → Type 0
Fresh l rs = forms.Name l × Apart (texts rs) l

pub returns-then-not-is_fresh-clause-read : goal.returns-then-not-is_fresh-clause-read
returns-then-not-is_fresh-clause-read c =
    let inv = c.loop-line.invariant in
    let rs = vec_items c.loop-line.names in
    let cuts = MatchOption-at_some _ _ _ (was_some c.cut.result _ _ c.in_ok-name.ensures.value) c.cut.ensures.text in
    let stale : Fresh c.in_ok-name.name.now rs → ⊥ = λ good.
    false≢true (sym c.if-not-is_fresh.true ∙ c.is_fresh.ensures.1 (subst (Fresh c.in_ok-name.name.now) (sym c.as_slice.ensures.value) good)) in
    rw c.at-then-not-is_fresh.ensures
    (names_stop _ _ _ rs _ inv.good inv.split inv.place (omega arith)
    (bad_line (λ l. Fresh l rs) _ _ (λ l good. name_free 10 l (omega arith) good.0) cuts.0 cuts.1 stale))

pub loop-line-preserved : goal.loop-line-preserved
loop-line-preserved c =
    let inv = c.loop-line.invariant in
    let rs = vec_items c.loop-line.names in
    let l = c.in_ok-name.name.now in
    let cuts = MatchOption-at_some _ _ _ (was_some c.cut.result _ _ c.in_ok-name.ensures.value) c.cut.ensures.text in
    let items = c.push_reserved.ensures.items in
    let grown : texts (vec_items c.push_reserved.new.self) ≡ texts rs ++ l ∷ [] = ap texts items ∙ map_more text_of rs c.in_ok-name.name in
    let fresh = subst (Fresh l) c.as_slice.ensures.value (c.is_fresh.ensures.0 c.if-not-is_fresh.false) in
    record {
      place = omega (arith, ap length items, length-append rs (c.in_ok-name.name ∷ []), inv.place);
      good = subst AllNames (sym grown) (names_more (texts rs) l inv.good fresh.0 fresh.1);
      split = ended_more (texts rs) _ _ inv.split cuts.1 ∙ ap (λ (ls : List (List ℕ)). ended ls c.in_ok-name.after.now) (sym grown);
      room = omega (arith, c.push_reserved.ensures.capacity, inv.room);
    }
