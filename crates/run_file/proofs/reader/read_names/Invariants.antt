use Rattle.std.proofs.Common.{◌≡◌, ◌+◌, length, vec_items, vec_capacity}
use Rattle.run_file.specs.Texts.{texts}
use Rattle.run_file.specs.Form.{ended, AllNames}
use Rattle.run_file.proofs.reader.read_names.Given as goal

abbrev pub invariant-loop-line : goal.invariant-loop-line
invariant-loop-line l = record {
  place : length (vec_items l.names) + 2 ≡ l.line;
  good : AllNames (texts (vec_items l.names));
  split : l.text ≡ ended (texts (vec_items l.names)) l.rest;
  room : vec_capacity l.names ≡ vec_capacity l.initial.names;
}
