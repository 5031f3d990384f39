-- The ways out of handling a message.
use Rattle.std.proofs.Common.{◌≡◌, ℕ, ◌<◌, ◌≤◌, Some, None, Ok, Err, Option, sym, refl, ◌∙◌}
use Rattle.std.proofs.lemmas.Bool.{lt-ltb, le-ltb}
use Rattle.replica.specs.declared.faults.Fault.{Fault}
use Rattle.replica.specs.Meanings.{Meaning}
use Rattle.replica.specs.Calls.{undone, lost, sealed, taken_in}
use Rattle.bank.specs.Places.{BankUndoes, BankSeals, BankTakesIn, BankLoses}
use Rattle.message.specs.Messages.{Tx, Msg, transaction}
use Rattle.journal.specs.Judging.{Judged, accepted, committed, again}
use Rattle.pronto.specs.declared.faults.ServerFault.{ServerFault}
use Rattle.pronto.specs.Numbers.{passed_up}
use Rattle.pronto.specs.Servers.{Site, past}
use Rattle.pronto.specs.Delivering.{own_slot, handle_why, handled}
use Rattle.pronto.specs.Acts.{NothingTold}
use Rattle.server.specs.declared.servers.Server.{Server}
use Rattle.server.specs.declared.servers.advances.Advance.TheVariants.{Passes, Closes, Rises}
use Rattle.server.specs.declared.slots.Slot.{Slot}
use Rattle.server.specs.Shown.{shown}
use Rattle.server.specs.Acting.{Meets}
use Rattle.server.proofs.Settling.{refused, obeyed, obeyed_here}

module _ (databases number i : ℕ) (v : Server) (ms : ℕ → Meaning) where
  abbrev S : Site
  S = shown v (ms i)

  pub rises : (m : Msg) (ns : ℕ → Meaning) → BankLoses i ms ns → Meets databases number accepted m (Ok Rises) i v ms ns
  rises m ns told w rise = obeyed (handle_why databases i number accepted m) NothingTold (handled number accepted m) i v ms tt w (lost (ms i)) ns refl tt told (rise (lost (ms i)))

  pub passes : (j : Judged) (m : Msg) → handle_why databases i number j m S ≡ None → handled number j m S ≡ past S → Meets databases number j m (Ok Passes) i v ms ms
  passes j m why leaves w pass = obeyed_here (handle_why databases i number j m) NothingTold (handled number j m) i v ms tt w why tt (pass (ms i) ∙ sym leaves)

  module _ (t : Tx) where
    abbrev commits : Site → Option ServerFault
    commits = handle_why databases i number committed (transaction t)

    abbrev after_commit : Site → Site
    after_commit = handled number committed (transaction t)

    module _ (s : Slot) (own : Some s.index ≡ own_slot number S t) where
      pub seal_fails : (f : Fault) (ns : ℕ → Meaning) → BankSeals (Err f) i s.index v.delivered ms ns → Meets databases number committed (transaction t) (Err (passed_up f)) i v ms ns
      seal_fails f ns told = refused commits NothingTold after_commit i v ms (passed_up f) ns (rw (← own, told.0)) told.1

      pub seal_done : (ns : ℕ → Meaning) → BankSeals (Ok tt) i s.index v.delivered ms ns → Meets databases number committed (transaction t) (Ok (Closes s)) i v ms ns
      seal_done ns told w close =
          let m = sealed (ms i) s.index v.delivered in
          obeyed commits NothingTold after_commit i v ms tt w m ns (rw (← own, told.0)) tt told.2 (rw (← own) (close m))

      module _ (q : ℕ) where
        pub undo_fails : (f : Fault) (ns : ℕ → Meaning) → BankUndoes (Err f) i s.index ms ns → Meets databases number (again q) (transaction t) (Err (passed_up f)) i v ms ns
        undo_fails f ns told =
            refused (handle_why databases i number (again q) (transaction t)) NothingTold (handled number (again q) (transaction t)) i v ms (passed_up f) ns
            (rw (← own, told.0)) told.1

        pub undo_done : (ns : ℕ → Meaning) → BankUndoes (Ok tt) i s.index ms ns → Meets databases number (again q) (transaction t) (Ok (Closes s)) i v ms ns
        undo_done ns told w close =
            let m = undone (ms i) s.index in
            obeyed (handle_why databases i number (again q) (transaction t)) NothingTold (handled number (again q) (transaction t)) i v ms tt w m ns
            (rw (← own, told.0)) tt told.2 (rw (← own) (close m))

    module _ (own : None ≡ own_slot number S t) where
      pub again_passes : (q : ℕ) → Meets databases number (again q) (transaction t) (Ok Passes) i v ms ms
      again_passes q = passes (again q) (transaction t) (rw (← own)) (rw (← own))

      pub has_it : v.delivered < (ms i).mark → Meets databases number committed (transaction t) (Ok Passes) i v ms ms
      has_it lt =
          let below = lt-ltb v.delivered (ms i).mark lt in
          passes committed (transaction t) (rw (← own, below)) (rw (← own, below))

      module _ (ns : ℕ → Meaning) (le : (ms i).mark ≤ v.delivered) where
        pub intake_fails : (f : Fault) → BankTakesIn databases (Err f) i t.stmts v.delivered ms ns → Meets databases number committed (transaction t) (Err (passed_up f)) i v ms ns
        intake_fails f told =
            refused commits NothingTold after_commit i v ms (passed_up f) ns
            (rw (← own, le-ltb v.delivered (ms i).mark le, told.0)) told.1

        pub intake_done : BankTakesIn databases (Ok tt) i t.stmts v.delivered ms ns → Meets databases number committed (transaction t) (Ok Passes) i v ms ns
        intake_done told w pass =
            let m = taken_in (ms i) t.stmts v.delivered in
            let past_mark = le-ltb v.delivered (ms i).mark le in
            obeyed commits NothingTold after_commit i v ms tt w m ns
            (rw (← own, past_mark, told.0)) tt told.2
            (rw (← own, past_mark) (pass m))
