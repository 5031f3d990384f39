use Rattle.std.proofs.Common.{◌≡◌, ℕ, false, List, Ok, Err, Result}
use Rattle.std.specs.Result.{is_err}
use Rattle.std.proofs.lemmas.Bool.{false≢true}
use Rattle.run_file.specs.declared.steps.Line.{Line}
use Rattle.run_file.specs.declared.faults.FileFault.{FileFault}
use Rattle.run_file.specs.Outcomes.{Accepted}
use Rattle.run_file.specs.Sections.{FileRead}
use Rattle.run_file.proofs.Short.{lines_short, names_short}
use Rattle.run_file.proofs.files.RunFile.read.Goals as goal

accepted :
    {text : List ℕ} (r : Result (Unit {0}) FileFault) {ns : List (List ℕ)} {ls : List Line} → false ≡ is_err r → FileRead text r ns ls →
    Accepted text ns ls
accepted (Ok u) e a = a
accepted (Err f) e a = absurd (false≢true e)

pub invariant_of-self-else-is_err : goal.invariant_of-self-else-is_err
invariant_of-self-else-is_err c =
    let a = accepted c.read_file-outcome.result c.if-is_err.ensures.value c.read_file-outcome.ensures.read in
    record { short_names = names_short _ a.whole.0.1; short_lines = lines_short _ _ a.says }
