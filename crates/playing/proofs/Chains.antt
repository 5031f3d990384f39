-- A list of acts grows by one at its end, and can be cut anywhere; so the law holds of every moment on the way.
use Rattle.std.proofs.Common.{◌≡◌, ℕ, ◌+◌, ◌<◌, ◌≤◌, List, [], ◌∷◌, ◌++◌, map, length, get_or, take, sym, refl, ap, ◌∙◌, subst, append_assoc}
use mathlib.Core.List.{map-append}
use Rattle.std.proofs.lemmas.List.{take_more, append-nil}
use Rattle.replica.specs.Meanings.{Meaning}
use Rattle.pronto.specs.States.{State, new_state}
use Rattle.pronto.specs.Steps.{Step, LeadsTo}
use Rattle.pronto.specs.Histories.{History}
use Rattle.pronto.proofs.Holds.{law}
use Rattle.pronto.specs.declared.acts.Act.{Act}
use Rattle.pronto.specs.declared.acts.Answer.{Answer}
use Rattle.pronto.specs.declared.acts.Entry.{Entry}
use Rattle.playing.specs.Plays.{act_of, Played, PlayedNew}

leads_more : (s : State) (h : History) (t u : State) (x : Entry) → LeadsTo s h t → Step t x.act x.answer u → LeadsTo s (h ++ x ∷ []) u
leads_more s [] t u x run step = (u, subst (λ v. Step v x.act x.answer u) run step, refl)
leads_more s (y ∷ h) t u x run step = (run.0, run.1, leads_more run.0 h t u x run.2 step)

leads_cut : (s : State) (h h' : History) (t : State) → LeadsTo s (h ++ h') t → (m : State) × LeadsTo s h m × LeadsTo m h' t
leads_cut s [] h' t run = (s, refl, run)
leads_cut s (x ∷ h) h' t run = let r = leads_cut run.0 h h' t run.2 in (r.0, (run.0, run.1, r.1), r.2)

-- what a loop over the acts has done so far
pub record SoFar (acts : List Act) (i : ℕ) (before after : History) (s t : State) : Type 0 where
  pub added : History
  pub history : after ≡ before ++ added
  pub acts_played : map act_of added ≡ take i acts
  pub leads : LeadsTo s added t

pub nothing_yet : (acts : List Act) (before : History) (s : State) → SoFar acts 0 before before s s
nothing_yet acts before s = record { added = []; history = sym (append-nil before); acts_played = refl; leads = refl }

pub one_more : (acts : List Act) (i : ℕ) (before after after' : History) (s t u : State) (a : Act) (r : Answer) → i < length acts → a ≡ get_or acts i a →
    SoFar acts i before after s t → Step t a r u → after' ≡ after ++ record { act = a; answer = r } ∷ [] → SoFar acts (i + 1) before after' s u
one_more acts i before after after' s t u a r lt read so step pushed =
    let x : Entry = record { act = a; answer = r } in
    record {
      added = so.added ++ x ∷ [];
      history = pushed ∙ ap (λ l. l ++ x ∷ []) so.history ∙ append_assoc before so.added (x ∷ []);
      acts_played = map-append act_of so.added (x ∷ []) ∙ ap (λ l. l ++ a ∷ []) so.acts_played ∙ ap (λ y. take i acts ++ y ∷ []) read ∙ sym (take_more acts i a lt);
      leads = leads_more s so.added t u x so.leads step;
    }

pub all_played : (acts : List Act) (i : ℕ) (before after : History) (s t : State) → take i acts ≡ acts → SoFar acts i before after s t → Played acts before after s t
all_played acts i before after s t all so =
    record {
      added = so.added;
      history = so.history;
      acts_played = so.acts_played ∙ all;
      leads = so.leads;
      law = λ capacity n databases units spare enough small h run. law capacity n databases units spare enough small h so.added s t run so.leads;
    }

-- from a new ensemble
module _ (capacity n databases : ℕ) (units : ℕ → ℕ → ℕ) (spare : ℕ → Meaning) (enough : n ≤ databases) (small : capacity ≤ 4096) where
  pub new_played : (acts : List Act) (before after : History) (made s : State) → made ≡ new_state capacity n databases units spare → Played acts before after made s →
      PlayedNew (new_state capacity n databases units spare) acts before after s
  new_played acts before after made s is played =
      let new = new_state capacity n databases units spare in
      let run : LeadsTo new played.added s = subst (λ x. LeadsTo x played.added s) is played.leads in
      record {
        added = played.added;
        history = played.history;
        acts_played = played.acts_played;
        leads = run;
        law = (law capacity n databases units spare enough small [] played.added new s refl run).second;
        moments = λ h h' e.
            let cut = leads_cut new h h' s (subst (λ l. LeadsTo new l s) e run) in
            (cut.0, cut.1, law capacity n databases units spare enough small h h' cut.0 s cut.1 cut.2);
      }
