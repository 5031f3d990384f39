-- How an act at one place is settled: refused, or obeyed with one database changed.
use Rattle.std.proofs.Common.{◌≡◌, ℕ, Some, None, Ok, Err, Option, sym, ap, ◌∙◌}
use Rattle.replica.specs.Meanings.{Meaning, upd}
use Rattle.replica.proofs.Updates.{upd_same}
use Rattle.pronto.specs.declared.faults.ServerFault.{ServerFault}
use Rattle.pronto.specs.Servers.{Site}
use Rattle.server.specs.declared.servers.Server.{Server}
use Rattle.server.specs.Shown.{shown}
use Rattle.server.specs.Acting.{Settled}
use Rattle.replica.proofs.Updates.{upd_self}

module _ {T : Type 0} (why : Site → Option ServerFault) (Right : Site → T → Type 0) (done : Site → Site) (i : ℕ) (v : Server) (ms : ℕ → Meaning) where
  pub refused : (e : ServerFault) (ns : ℕ → Meaning) → why (shown v (ms i)) ≡ Some e → ns ≡ ms → Settled {T = T} (Err e) why Right done i v ms v ns
  refused e ns h s = ((h, ap (λ (f : ℕ → Meaning). shown v (f i)) s), s ∙ sym (upd_self ms i) ∙ ap (λ (f : ℕ → Meaning). upd ms i (f i)) (sym s))

  pub obeyed : (x : T) (w : Server) (m : Meaning) (ns : ℕ → Meaning) → why (shown v (ms i)) ≡ None → Right (shown v (ms i)) x → ns ≡ upd ms i m →
      shown w m ≡ done (shown v (ms i)) → Settled (Ok x) why Right done i v ms w ns
  obeyed x w m ns h r s d =
      let here : ns i ≡ m = ap (λ (f : ℕ → Meaning). f i) s ∙ upd_same ms i m in
      ((h, r, ap (shown w) here ∙ d), s ∙ ap (upd ms i) (sym here))

  -- obeyed, and no database changed
  pub obeyed_here : (x : T) (w : Server) → why (shown v (ms i)) ≡ None → Right (shown v (ms i)) x → shown w (ms i) ≡ done (shown v (ms i)) → Settled (Ok x) why Right done i v ms w ms
  obeyed_here x w h r d = obeyed x w (ms i) ms h r (sym (upd_self ms i)) d
