use Rattle.std.proofs.Common.{◌≡◌, ◌+◌, map, length, vec_items, vec_capacity}
use Rattle.run_file.specs.Texts.{texts}
use Rattle.run_file.specs.Form.{ended}
use Rattle.run_file.specs.Outcomes.{own, AllSay}
use Rattle.run_file.proofs.reader.read_steps.Given as goal

abbrev pub invariant-loop-number : goal.invariant-loop-number
invariant-loop-number l = record {
  place : l.first + length (vec_items l.lines) ≡ l.number;
  good : AllSay (texts l.clients.names.now) (vec_items l.lines);
  split : l.text ≡ ended (map own (vec_items l.lines)) l.rest;
  room : vec_capacity l.lines ≡ vec_capacity l.initial.lines;
}
