use Rattle.std.proofs.Common.{◌≡◌, ◌+◌, ◌-◌, ◌≤◌, Ok, Some, Option, length, ℕ, take, drop, arith, subst, rules, length-take-le, length-drop}
use Rattle.ensemble.specs.Whole.{state}
use Rattle.run_file.specs.Files.{names_of, lines_of, line_at}
use Rattle.stepping.specs.Lines.{Steps}
use Rattle.stepping.specs.Answers.{line_text}
use Rattle.session.proofs.Lines.{ends_within, line_added}
use Rattle.session.proofs.running.step_into.Goals as goal

pub returns : goal.returns
returns g c =
    let S = state g.B.Broadcast g.K.ReplicaBank g.K.DatabaseBank c.args.ensemble.now in
    let S' = state g.B.Broadcast g.K.ReplicaBank g.K.DatabaseBank c.take_step.new.ensemble in
    let k = c.args.at + 96 - c.args.at in
    let room = take k (drop c.args.at c.args.output.now) in
    let P : Option ℕ → Type 0 = λ o. Steps (Ok o) (names_of c.args.file.now) (line_at (lines_of c.args.file.now) c.args.place) room c.take_step.new.line S S' in
    let told : P (Some c.in-Ok-Some.n) = subst P c.in-Ok-Some.field-0-is c.in-Ok-Some.ensures in
    let t = told.1 in
    let long : length c.take_step.new.line ≡ length room = search rules in
    let full : length room ≡ 96 = omega (arith, c.requires.room, length-take-le k (drop c.args.at c.args.output.now) (omega (arith, c.requires.room, length-drop c.args.at c.args.output.now))) in
    let text = line_text t.line.text.now (names_of c.args.file.now) S'.log t.answer in
    let low : c.in-Ok-Some.n ≤ 96 = subst (λ m. c.in-Ok-Some.n ≤ m) full (ends_within room text c.take_step.new.line c.in-Ok-Some.n t.written long) in
    record {
      line = t.line;
      there = t.there;
      answer = t.answer;
      takes = t.takes;
      adds = line_added c.args.output.now c.args.at k c.in-Ok-Some.n text c.take_step.new.line (omega (arith, c.requires.room)) t.written (omega (arith, low));
      short = omega (arith, low);
    }
