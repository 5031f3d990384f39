-- The ways out of deliver.
use Rattle.std.proofs.Common.{◌≡◌, ℕ, List, Some, None, Ok, Err, sym, refl, ◌∙◌}
use Rattle.replica.specs.Meanings.{Meaning}
use Rattle.message.specs.Messages.{Msg}
use Rattle.broadcast.specs.Bags.{nth}
use Rattle.journal.specs.Verdicts.{judged_of}
use Rattle.journal.specs.declared.verdicts.Judgement.{Judgement}
use Rattle.pronto.specs.declared.faults.ServerFault.{ServerFault}
use Rattle.pronto.specs.Servers.{Site}
use Rattle.pronto.specs.Refusing.{first}
use Rattle.pronto.specs.Delivering.{handle_why, handled, deliver_table, deliver_why, deliver_after, Tells, verdict}
use Rattle.server.specs.declared.servers.Server.{Server}
use Rattle.server.specs.declared.servers.advances.Advance.{Advance}
use Rattle.server.specs.Shown.{shown, advanced}
use Rattle.server.specs.Acting.{Meets, Delivers}
use Rattle.server.proofs.Settling.{refused}

module _ (databases : ℕ) (log : List Msg) (number i : ℕ) (v : Server) (ms : ℕ → Meaning) where
  abbrev S : Site
  S = shown v (ms i)

  pub deliver_turned : (e : ServerFault) → first (deliver_table log S) ≡ Some e → Delivers databases log number (Err e) i v ms v ms
  unfolding deliver_why
  deliver_turned e h = refused (deliver_why log databases i number) (Tells log) (deliver_after log number) i v ms e ms (rw h) refl

  module _ (m : Msg) (x : Judgement) (free : first (deliver_table log S) ≡ None) (here : nth log v.delivered ≡ Some m) (is : verdict log S m ≡ judged_of x) where
    asked : deliver_why log databases i number S ≡ handle_why databases i number (judged_of x) m S
    unfolding deliver_why
    asked = rw (free, here, is)

    leaves : deliver_after log number S ≡ handled number (judged_of x) m S
    unfolding deliver_after
    leaves = rw (here, is)

    tells : (p : ℕ) → p ≡ v.delivered → Tells log S (p, x)
    unfolding Tells
    tells p s = (s, rw (here, is))

    pub deliver_fails : (e : ServerFault) (ns : ℕ → Meaning) → Meets databases number (judged_of x) m (Err e) i v ms ns → Delivers databases log number (Err e) i v ms v ns
    deliver_fails e ns told = ((asked ∙ told.0.0, told.0.1), told.1)

    pub deliver_done : (p : ℕ) (a : Advance) (w : Server) (ns : ℕ → Meaning) → p ≡ v.delivered → Meets databases number (judged_of x) m (Ok a) i v ms ns
        → ((n : Meaning) → shown w n ≡ advanced a (shown v n)) → Delivers databases log number (Ok (p, x)) i v ms w ns
    deliver_done p a w ns s meets advances =
        let told = meets w advances in
        ((asked ∙ told.0.0, tells p s, told.0.2 ∙ sym leaves), told.1)
