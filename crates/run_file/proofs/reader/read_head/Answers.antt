use Rattle.std.proofs.Common.{sym, refl, subst}
use Rattle.std.proofs.lemmas.Option.{MatchOption-at_none, MatchOption-at_some}
use Rattle.std.proofs.lemmas.Result.{err_from_is_err_and}
use Rattle.lexing.specs.Parts.{Free}
use Rattle.run_file.specs.Sections.{HeadLine}
use Rattle.run_file.proofs.Exits.{was_none, was_some}
use Rattle.run_file.proofs.Fronts.{head_free}
use Rattle.run_file.proofs.Growing.{no_line, bad_line}
use Rattle.run_file.proofs.reader.read_head.Goals as goal

pub returns-in_err-line : goal.returns-in_err-line
returns-in_err-line c =
    let p = err_from_is_err_and c.from_residual.result c.from_residual.ensures.1 in
    let w = was_none c.cut.result _ _ c.in_err-line.ensures.value in
    rw (p.1, p.2, w.1, c.at.ensures) (no_line (HeadLine c.args.section) _ (MatchOption-at_none _ _ w.0 c.cut.ensures.text), refl, refl)

pub returns-in_err-count : goal.returns-in_err-count
returns-in_err-count c =
    let p = err_from_is_err_and c.from_residual-in_err-count.result c.from_residual-in_err-count.ensures.1 in
    let s = c.args.section in
    let cuts = MatchOption-at_some _ _ _ (was_some c.cut.result _ _ c.in_ok-line.ensures.value) c.cut.ensures.text in
    let w = was_none c.count.result _ _ c.in_err-count.ensures.value in
    let none = MatchOption-at_none _ _ w.0 c.count.ensures in
    rw (p.1, p.2, w.1, c.at-2.ensures) (
      bad_line (HeadLine s) _ _ (λ l h. subst (Free 10) (sym h.is) (head_free s h.count h.fits)) cuts.0 cuts.1 (λ h. none h.count h.fits h.is),
      refl,
      refl,
    )
