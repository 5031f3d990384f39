-- The afternoon of two servers, played through the definitions: each act answers as the example says.
use Rattle.std.proofs.Common.{List, map, refl}
use Rattle.replica.specs.Meanings.{upd}
use Rattle.replica.specs.Calls.{cleared, taken_in, opened, run_answer, written_into, looked_at, ran, sealed, undone, lost}
use Rattle.replica.specs.Refusals.{intake_refusal, open_refusal, run_refusal, seal_refusal, undo_refusal}
use Rattle.statement.specs.Making.{checked}
use Rattle.journal.specs.Judging.{judge, at, primary}
use Rattle.pronto.specs.Refusing.{at_place, seek, begin_why, run_why, run_result, run_after, commit_after}
use Rattle.pronto.specs.Delivering.{verdict, deliver_why, deliver_after}
use Rattle.pronto.specs.States.{new_state}
use Rattle.pronto.specs.Acts.{message_to_commit}
use Rattle.pronto.specs.Example.{afternoon, Afternoon}
use Rattle.pronto.specs.declared.acts.Act.{Act}
use Rattle.pronto.specs.declared.acts.Entry.{Entry}
use Rattle.pronto.proofs.Playing.{answered, moment, plays}

abbrev acts : List Act
acts = map (λ (x : Entry). x.act) afternoon

pub an_afternoon : Afternoon
unfolding answered upd cleared taken_in opened run_answer written_into looked_at ran sealed undone lost intake_refusal open_refusal run_refusal seal_refusal undo_refusal checked judge at primary at_place seek begin_why run_why run_result run_after commit_after verdict deliver_why deliver_after message_to_commit
an_afternoon units spare =
    record {
      evening = moment (new_state 8 2 2 units spare) acts;
      leads = plays (new_state 8 2 2 units spare) acts;
      first = refl;
      second = refl;
      cell_at_first = refl;
      cell_at_second = refl;
      bar = refl;
    }
