-- The ways out of begin, run and abort, from what the look found and what the database answered; and what a commit sends and leaves.
use Rattle.std.proofs.Common.{◌≡◌, ℕ, true, Some, None, Ok, Err, Option, sym, refl, ap, ◌∙◌, ⊎_elim}
use Rattle.statement.specs.declared.operation.Operation.{Operation}
use Rattle.statement.specs.declared.checked.Statement.{Statement}
use Rattle.replica.specs.declared.faults.Fault.{Fault}
use Rattle.replica.specs.Meanings.{Meaning, upd}
use Rattle.replica.specs.Calls.{opened, ran, undone}
use Rattle.replica.specs.Refusals.{open_refusal, run_refusal, undo_refusal}
use Rattle.message.specs.declared.notes.Notes.{Notes}
use Rattle.message.specs.Noted.{Longer}
use Rattle.bank.specs.Places.{BankOpens, BankRuns, BankUndoes}
use Rattle.pronto.specs.declared.faults.ServerFault.{ServerFault}
use Rattle.pronto.specs.Numbers.{passed_up}
use Rattle.pronto.specs.Servers.{Work, Site, with_row, new_work, committing_now, begun, sent_off}
use Rattle.pronto.specs.Refusing.{first, up, at_place, find, begin_table, begin_why, run_table, run_why, run_result, run_after, open_table, commit_after, abort_why, abort_after}
use Rattle.pronto.specs.Acts.{NothingTold, message_of, message_to_commit}
use Rattle.server.specs.declared.rows.Open.{Open}
use Rattle.server.specs.declared.servers.Server.{Server}
use Rattle.server.specs.declared.slots.Slot.{Slot}
use Rattle.server.specs.declared.states.Arrival.TheVariants.{Commit, Abort}
use Rattle.server.specs.declared.states.Outcome.TheVariants.{Stays, Ends}
use Rattle.server.specs.Looking.{FreeIn, Found, Reaches, Runnable}
use Rattle.server.specs.Shown.{shown, row_after}
use Rattle.server.specs.Acting.{Begins, Runs, Aborts}
use Rattle.replica.proofs.Updates.{upd_self}
use Rattle.server.proofs.Rowwise.{seek_row}
use Rattle.server.proofs.Settling.{refused, obeyed}

module _ (i : ℕ) (v : Server) (ms : ℕ → Meaning) where
  abbrev S : Site
  S = shown v (ms i)

  module _ (databases n number c k : ℕ) where
    abbrev begins : ℕ → Site → Option ServerFault
    begins p s = begin_why databases i n number s c k p

    abbrev opens : ℕ → Site → Site
    opens p s = begun s p c k

    pub begin_turned : (e : ServerFault) → first (begin_table n number S c k) ≡ Some e → Begins databases n number c k (Err e) i v ms v ms
    unfolding begin_why
    begin_turned e h = record { slot = 0; free = λ f. absurd (cc (h, f)); settled = refused (begins 0) NothingTold (opens 0) i v ms e ms (rw h) refl }

    module _ (s : Slot) (asks : first (begin_table n number S c k) ≡ None) (free : FreeIn S s) (ns : ℕ → Meaning) where
      begin_asked : begins s.index S ≡ up (at_place databases i (open_refusal (ms i) s.index))
      unfolding begin_why
      begin_asked = rw asks

      pub begin_fails : (f : Fault) → BankOpens databases (Err f) i s.index ms ns → Begins databases n number c k (Err (passed_up f)) i v ms v ns
      begin_fails f told = record {
        slot = s.index;
        free = λ _. (s.low, free);
        settled = refused (begins s.index) NothingTold (opens s.index) i v ms (passed_up f) ns (begin_asked ∙ ap up told.0) told.1;
      }

      pub begin_done : (w : Server) → BankOpens databases (Ok tt) i s.index ms ns → ((m : Meaning) → shown w m ≡ with_row (shown v m) s.index (Some (new_work c k)))
          → Begins databases n number c k (Ok tt) i v ms w ns
      begin_done w told row = record {
        slot = s.index;
        free = λ _. (s.low, free);
        settled =
            obeyed (begins s.index) NothingTold (opens s.index) i v ms tt w (opened (ms i) s.index) ns (begin_asked ∙ ap up told.0) tt told.2 (row (opened (ms i) s.index));
      }

  module _ (units : ℕ → ℕ → ℕ) (c k cell : ℕ) (o : Operation) where
    abbrev runs : Site → Option ServerFault
    runs s = run_why (units i) s c k cell o

    abbrev gives : Site → ℕ → Type 0
    gives s x = x ≡ run_result s c k cell o

    abbrev after_run : Site → Site
    after_run s = run_after (units i) s c k cell o

    pub run_turned : (e : ServerFault) → first (run_table S c k cell o) ≡ Some e → Runs units c k cell o (Err e) i v ms v ms
    unfolding run_why
    run_turned e h = refused runs gives after_run i v ms e ms (rw h) refl

    module _ (st : Statement) (t : Open) (asks : first (run_table S c k cell o) ≡ None) (found : Runnable cell o (find S c k) (st, t)) (ns : ℕ → Meaning) where
      run_asked : runs S ≡ up (run_refusal (units i) (ms i) t.slot.index st)
      unfolding run_why
      run_asked = rw (asks, found.0, found.1.0)

      pub run_fails : (f : Fault) → BankRuns units (Err f) i t.slot.index st ms ns → Runs units c k cell o (Err (passed_up f)) i v ms v ns
      run_fails f told = refused runs gives after_run i v ms (passed_up f) ns (run_asked ∙ ap up told.0) told.1

      -- the transaction stays, with longer notes
      pub run_done : (x : ℕ) (w : Server) (notes : Notes) → BankRuns units (Ok x) i t.slot.index st ms ns → Longer t.row.notes st x (Some notes)
          → ((m : Meaning) → shown w m ≡ with_row (shown v m) t.slot.index (row_after t.outcome (record t.row { notes = notes })))
          → Runs units c k cell o (Ok x) i v ms w ns
      unfolding run_result run_after
      run_done x w notes told more settles =
          let m = ran (units i) (ms i) t.slot.index st in
          let stays : t.outcome ≡ Stays = cc found.1.1 in
          let row = rw (stays, more.1, more.2, told.1) at (settles m) in
          obeyed runs gives after_run i v ms x w m ns (run_asked ∙ ap up told.0) (rw (found.0, found.1.0) told.1) told.2 (rw (found.0, found.1.0) row)

  module _ (c k : ℕ) where
    abbrev aborts : Site → Option ServerFault
    aborts s = abort_why s c k

    abbrev after_abort : Site → Site
    after_abort s = abort_after s c k

    pub abort_turned : (e : ServerFault) → first (open_table S c k) ≡ Some e → Aborts c k (Err e) i v ms v ms
    unfolding abort_why
    abort_turned e h = refused aborts NothingTold after_abort i v ms e ms (rw h) refl

    module _ (t : Open) (asks : first (open_table S c k) ≡ None) (found : Found Abort (find S c k) t) (ns : ℕ → Meaning) where
      abort_asked : aborts S ≡ up (undo_refusal (ms i) t.slot.index)
      unfolding abort_why
      abort_asked = rw (asks, found.0)

      pub abort_fails : (f : Fault) → BankUndoes (Err f) i t.slot.index ms ns → Aborts c k (Err (passed_up f)) i v ms v ns
      abort_fails f told = refused aborts NothingTold after_abort i v ms (passed_up f) ns (abort_asked ∙ ap up told.0) told.1

      -- the transaction ends
      pub abort_done : (w : Server) → BankUndoes (Ok tt) i t.slot.index ms ns → ((m : Meaning) → shown w m ≡ with_row (shown v m) t.slot.index (row_after t.outcome t.row)) → Aborts c k (Ok tt) i v ms w ns
      unfolding abort_after
      abort_done w told settles =
          let m = undone (ms i) t.slot.index in
          let ends : t.outcome ≡ Ends = cc found.1 in
          let row = rw ends at (settles m) in
          obeyed aborts NothingTold after_abort i v ms tt w m ns (abort_asked ∙ ap up told.0) tt told.2 (rw found.0 row)

module _ (c k : ℕ) (v : Site) where
  module _ (p : ℕ) (w : Work) (here : find v c k ≡ Some (p, w)) where
    pub commit_leaves : commit_after v c k ≡ sent_off v p w
    unfolding commit_after
    commit_leaves = rw here

    pub commit_sends : (i : ℕ) → message_to_commit i v c k ≡ message_of i v w
    unfolding message_to_commit
    commit_sends i = rw here

    -- it is committing already
    pub commit_again : w.committing ≡ true → commit_after v c k ≡ v
    unfolding commit_after
    commit_again already =
        let row : v.rows p ≡ Some w = seek_row v.rows c k 8 p w here in
        let same : committing_now w ≡ w = ap (λ b. record w { committing = b }) (sym already) in
        rw here (ap (λ (f : ℕ → Option Work). record v { rows = f }) (ap (λ (x : Work). upd v.rows p (Some x)) same ∙ ap (upd v.rows p) (sym row) ∙ upd_self v.rows p))

  -- it is not open, or committing already
  pub commit_unreached : (e : ServerFault) → Reaches Commit (find v c k) (Err e) → commit_after v c k ≡ v
  unfolding commit_after
  commit_unreached e h = by (find v c k) refl h
    where
      by : (found : Option (ℕ × Work)) → find v c k ≡ found → Reaches Commit found (Err e) → commit_after v c k ≡ v
      by None is told = rw is
      by (Some y) is told = commit_again y.0 y.1 is (⊎_elim (λ none. absurd (cc none.0)) (λ already. already.1) told)
