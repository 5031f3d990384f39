use Rattle.std.proofs.Common.{sym, rules}
use Rattle.stepping.proofs.Adding.{then_wrote, wrote_all}
use Rattle.stepping.proofs.lines.take_step.Goals as goal

pub returns : goal.returns
returns g c = (
  c.if-line-lt-LINE_BYTES.false,
  record {
    line = c.in-Some.found;
    there = sym c.in-Some.ensures.value;
    answer = c.take-answer.result;
    takes = c.take-answer.ensures;
    written =
        wrote_all c.new-out.ensures.line c.new-out.ensures.start (search rules) c.len.ensures
        (then_wrote (then_wrote c.text.ensures c.text-2.ensures) c.answer.ensures);
  },
)
