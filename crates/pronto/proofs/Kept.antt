-- Each obeyed act keeps the invariant, by what is shown of each kind of act.
use Rattle.std.proofs.Common.{◌≡◌, ℕ, ◌+◌, ◌<◌, List, ◌∷◌, ◌++◌, length, drop, subst}
use Rattle.std.specs.List.{AllByRecursion as All}
use Rattle.std.proofs.ByRecursion.{All-drop}
use Rattle.replica.proofs.Updates.{upd_all}
use Rattle.message.specs.Messages.{Msg}
use Rattle.journal.specs.Judging.{start, from}
use Rattle.pronto.specs.Servers.{Site, started}
use Rattle.pronto.specs.States.{State, change, with_messages}
use Rattle.pronto.specs.declared.acts.Act.{Act}
use Rattle.pronto.specs.declared.acts.Answer.{Answer}
use Rattle.pronto.proofs.Everywhere.{all_left}
use Rattle.pronto.proofs.Views.{opening, working, closing, stopping, Obeys, begins, runs_it, commits, aborts, suspects, orders, delivers, stops, starts}
use Rattle.pronto.proofs.Invariant.{Good, Known, Inv}
use Rattle.pronto.proofs.Orders.{order_keeps}
use Rattle.pronto.proofs.Rows.{begin_good, abort_good}
use Rattle.pronto.proofs.Running.{run_good}
use Rattle.pronto.proofs.Commits.{commit_keeps, suspect_keeps}
use Rattle.pronto.proofs.Delivers.{deliver_good}
use Rattle.pronto.proofs.Lives.{stop_good, start_good}

change_keeps : (s : State) (i : ℕ) (w : Site) → Inv s → Good s.count (s.units i) s.log s.waiting i w → Inv (change s i w)
change_keeps s i w h g =
    record {
      good = upd_all (λ j v. Good s.count (s.units j) s.log s.waiting j v) s.servers i w g (λ j ne. h.good j);
      known = h.known;
      right = h.right;
      sound = h.sound;
      clears = h.clears;
      count = h.count;
      room = h.room;
      small = h.small;
      enough = h.enough;
    }

waits : (s : State) (W : List Msg) → s.waiting ≡ W → Inv s → Inv (with_messages s s.log W s.sent)
waits s W e h = subst (λ (x : List Msg). Inv (with_messages s s.log x s.sent)) e h

fits : (s : State) (W : List Msg) → s.waiting ≡ W → length s.log + length s.waiting < s.capacity → length s.log + length W < s.capacity
fits s W e lt = subst (λ (x : List Msg). length s.log + length x < s.capacity) e lt

module _ (s : State) (h : Inv s) where
  pub known_at : (d : ℕ) (m : Msg) (rest : List Msg) → drop d s.log ≡ m ∷ rest → Known s.count (from start s.log).epoch m
  known_at d m rest e =
      let K = Known s.count (from start s.log).epoch in
      let b : All K (m ∷ rest) = rw e at (All-drop K d s.log (all_left K s.log s.waiting h.known)) in
      b.0

  pub obeys_keeps : (s' : State) (a : Act) (r : Answer) → Obeys s s' a r → Inv s'
  obeys_keeps s' a r (begins t p up lead bar un em lt e) =
      let i = t.server in
      rw e (change_keeps s i (opening (s.servers i) p t.client t.job) h
      (begin_good s.count (s.units i) s.log s.waiting i (s.servers i) p t.client t.job (h.good i) up lead bar un em lt))
  obeys_keeps s' a r (runs_it t c o p w k st made x ek nh e) =
      let i = t.server in
      rw e (change_keeps s i (working (s.servers i) p w k st (s.units i st.cell)) h
      (run_good s.count (s.units i) s.log s.waiting i (s.servers i) p w k st (h.good i) x.open_row x.state ek nh))
  obeys_keeps s' a r (commits t p w V W x lt ew e) =
      rw e (commit_keeps s s.log V W s.sent t.server p w x.open_row x.state (fits s (V ++ W) ew lt) (waits s (V ++ W) ew h))
  obeys_keeps s' a r (aborts t p w x e) =
      let i = t.server in
      rw e (change_keeps s i (closing (s.servers i) p) h
      (abort_good s.count (s.units i) s.log s.waiting i (s.servers i) p w (h.good i) x.open_row x.state))
  obeys_keeps s' a r (suspects i V W lt ew e) = rw e (suspect_keeps s s.log V W s.sent i (fits s (V ++ W) ew lt) (waits s (V ++ W) ew h))
  obeys_keeps s' a r (orders m V W ew e) = rw e (order_keeps s s.log V W m s.sent (waits s (V ++ m ∷ W) ew h))
  obeys_keeps s' a r (delivers i m rest w j up here is d e) =
      rw e (change_keeps s i w h
      (deliver_good s.count (s.units i) s.log s.waiting i (s.servers i) (h.good i) up m rest here (known_at (s.servers i).delivered m rest here) w d))
  obeys_keeps s' a r (stops i e) =
      rw e (change_keeps s i (stopping (s.servers i)) h (stop_good s.count (s.units i) s.log s.waiting i (s.servers i) (h.good i)))
  obeys_keeps s' a r (starts i down e) =
      rw e (change_keeps s i (started (s.servers i) (length s.log)) h
      (start_good s.count (s.units i) s.log s.waiting i (s.servers i) (h.good i) h.known down))
