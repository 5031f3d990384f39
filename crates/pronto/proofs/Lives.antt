-- Stop and start keep the invariant: a stopped server holds nothing, and a started one has a bar past all that is ordered.
use Rattle.std.proofs.Common.{◌≡◌, ℕ, false, List, ◌++◌, length, Some, None, sym, refl, ap, inl, arith}
use Rattle.std.specs.List.{AllByRecursion as All}
use Rattle.std.proofs.lemmas.Bool.{both_ways}
use Rattle.std.proofs.ByRecursion.{All-weaker}
use Rattle.message.specs.Messages.{Msg, epoch_change, transaction}
use Rattle.journal.specs.Judging.{Summary, start, from, at}
use Rattle.journal.proofs.Fronts.{at_all}
use Rattle.journal.proofs.Summaries.{at_start}
use Rattle.pronto.specs.Servers.{Work, Site, started}
use Rattle.pronto.proofs.Views.{stopping}
use Rattle.pronto.proofs.Invariant.{Old, Good, Known}
use Rattle.pronto.proofs.Rows.{none_some}

pub stop_good : (n : ℕ) (unit : ℕ → ℕ) (L W : List Msg) (i : ℕ) (v : Site) → Good n unit L W i v → Good n unit L W i (stopping v)
stop_good n unit L W i v h =
    record {
      placed =
          record {
            d≤ = omega arith;
            m≤ = h.placed.m≤;
            ep = sym (ap (λ (j : Summary). j.epoch) (at_start L));
            cm = h.placed.cm;
            cd = λ q c. let e : v.db.mark ≡ 0 = omega arith in rw e at (h.placed.cm c);
          };
      local =
          record {
            leads = λ s r e. absurd (none_some None r refl e);
            link = λ s. tt;
            alone = λ s s' r r' e. absurd (none_some None r refl e);
            few = λ s r e. absurd (none_some None r refl e);
            free = λ s s' k k' ne e. absurd (none_some None k refl e);
          };
      fence = λ u. absurd (both_ways false refl u);
      owned = λ u b. absurd (both_ways false refl u);
      unlike = λ u b. absurd (both_ways false refl u);
    }

known_old : (n i e : ℕ) (m : Msg) → Known n e m → Old i e m
known_old n i e (epoch_change k f) h = tt
known_old n i e (transaction t) h = λ p. h.0

pub start_good : (n : ℕ) (unit : ℕ → ℕ) (L W : List Msg) (i : ℕ) (v : Site) → Good n unit L W i v → All (Known n (from start L).epoch) (L ++ W) →
    v.running ≡ false → Good n unit L W i (started v (length L))
start_good n unit L W i v h kn down =
    let none_open : (s : ℕ) (r : Work) → v.rows s ≡ Some r → ⊥ = λ s r e. both_ways v.running down (h.local.leads s r e).up in
    record {
      placed = record { d≤ = h.placed.d≤; m≤ = h.placed.m≤; ep = h.placed.ep; cm = h.placed.cm; cd = h.placed.cd };
      local = record { leads = λ s r e. absurd (none_open s r e); link = h.local.link; alone = h.local.alone; few = h.local.few; free = h.local.free };
      fence = λ u. (
        omega arith,
        inl h.placed.m≤,
        All-weaker (Known n (from start L).epoch) (Old i (at L (length L)).epoch)
            (λ m g. rw (at_all L) (known_old n i (from start L).epoch m g)) (L ++ W) kn,
      );
      owned = λ u b. absurd (none_some (Some (length L)) (length L) b refl);
      unlike = λ u b. absurd (none_some (Some (length L)) (length L) b refl);
    }
