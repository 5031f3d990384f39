-- What a run file says: the names of its clients, and its steps.
use Rattle.std.specs.Prelude.{ℕ, List, vec_items, Option}
use Rattle.broadcast.specs.Bags.{nth}
use Rattle.run_file.specs.declared.steps.Line.{Line}
use Rattle.run_file.specs.declared.files.RunFile.{RunFile}
use Rattle.run_file.specs.Texts.{texts}

abbrev pub names_of : RunFile → List (List ℕ)
names_of f = texts (vec_items f.names)

abbrev pub lines_of : RunFile → List Line
lines_of f = vec_items f.lines

-- The line at a place, where there is one.
abbrev pub line_at : List Line → ℕ → Option Line
line_at ls k = nth ls k
