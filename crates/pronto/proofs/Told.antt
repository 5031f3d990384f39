-- What a history tells is what the ensemble keeps: standings, the rows' statements and results, the messages, the judgements. From
-- the obeyed acts.
use Rattle.std.proofs.Common.{◌≡◌, ℕ, ◌+◌, ◌≤◌, max, Bool, true, false, cond, ◌&&◌, eqb, List, [], ◌∷◌, ◌++◌, length, Some, None, Option, sym, refl, ap, ◌∙◌, subst, arith}
use mathlib.Core.List.{map-append, Perm, perm_middle, perm_append_singleton}
use native.Mathlib.Decide.{ℕ_discrete}
use Rattle.std.proofs.lemmas.List.{append-nil, append_assoc, take-append-le, drop-append-le}
use Rattle.std.proofs.lemmas.Bool.{eq-eqb, ne_eqb, and_from, and_left, and_right}
use Rattle.statement.specs.declared.operation.Operation.{Operation}
use Rattle.statement.specs.declared.checked.Statement.{Statement}
use Rattle.statement.specs.Operations.{answered}
use Rattle.statement.specs.Making.{checked}
use Rattle.replica.specs.Meanings.{upd}
use Rattle.replica.proofs.Updates.{upd_same, upd_other, upd_all, new, old, upd_view}
use Rattle.message.specs.Messages.{Msg, epoch_change, transaction}
use Rattle.journal.specs.Judging.{Judged, accepted, stale, committed, late, again, Summary, judge, at}
use Rattle.journal.specs.Positions.{Stands}
use Rattle.journal.specs.Verdicts.{judged_of}
use Rattle.journal.specs.declared.verdicts.Judgement.{Judgement}
use Rattle.journal.specs.declared.verdicts.Judgement.TheVariants as judgement
use Rattle.journal.proofs.Fronts.{length_here}
use Rattle.pronto.specs.Servers.{Work, Site, new_work, noted, committing_now}
use Rattle.pronto.specs.States.{State}
use Rattle.pronto.specs.Acts.{message_of}
use Rattle.pronto.specs.Histories.{History, obeyed, fold, Standing, after_judgement, after_act, standing, same_id, tells, told, statements_told, results_told, commit_of, sent_by, sent_after, all_sent, is_commit, is_suspect, how_many}
use Rattle.pronto.specs.Law.{standing_of}
use Rattle.pronto.specs.declared.refusals.Refusal.{Refusal}
use Rattle.pronto.specs.declared.acts.TransactionId.{TransactionId}
use Rattle.pronto.specs.declared.acts.Act.{Act}
use Rattle.pronto.specs.declared.acts.Act.TheVariants as act
use Rattle.pronto.specs.declared.acts.Answer.{Answer}
use Rattle.pronto.specs.declared.acts.Answer.TheVariants as answer
use Rattle.pronto.specs.declared.acts.Entry.{Entry}
use Rattle.pronto.proofs.Views.{found, Obeys, begins, runs_it, commits, aborts, suspects, orders, delivers, stops, starts, Delivers, rises, is_stale, is_late, seals_own, takes_in, has_it, ends_own, passes}
use Rattle.pronto.proofs.Invariant.{Fence, Good, Inv}
use Rattle.pronto.proofs.Rows.{none_some}

cond_same : {A : Type 0} (b : Bool) (x : A) → cond b x x ≡ x
cond_same true x = refl
cond_same false x = refl

-- one act more
abbrev pub entry : Act → Answer → Entry
entry a r = record { act = a; answer = r }

abbrev pub one : (Act → Bool) → Act → Answer → ℕ
one f a r = cond (f a && obeyed r) 1 0

one_more : (b : Bool) (n : ℕ) → cond b (n + 1) n ≡ n + cond b 1 0
one_more true n = refl
one_more false n = omega arith

pub fold_push : {A : Type 0} (f : Act → Answer → A → A) (v : A) (h : History) (x : Entry) → fold f v (h ++ x ∷ []) ≡ f x.act x.answer (fold f v h)
fold_push f v [] x = refl
fold_push f v (y ∷ h) x = fold_push f (f y.act y.answer v) h x

sent_push : (g h : History) (x : Entry) → sent_after g (h ++ x ∷ []) ≡ sent_after g h ++ sent_by x.act x.answer (g ++ h)
sent_push g [] x = append-nil (sent_by x.act x.answer g) ∙ ap (sent_by x.act x.answer) (sym (append-nil g))
sent_push g (y ∷ h) x =
    ap (λ (z : List Msg). sent_by y.act y.answer g ++ z)
    (sent_push (g ++ y ∷ []) h x ∙ ap (λ (z : History). sent_after (g ++ y ∷ []) h ++ sent_by x.act x.answer z) (append_assoc g (y ∷ []) h))
    ∙ sym (append_assoc (sent_by y.act y.answer g) (sent_after (g ++ y ∷ []) h) (sent_by x.act x.answer (g ++ y ∷ h)))

pub all_sent_push : (h : History) (a : Act) (r : Answer) → all_sent (h ++ entry a r ∷ []) ≡ all_sent h ++ sent_by a r h
all_sent_push h a r = sent_push [] h (entry a r)

pub how_many_push : (f : Act → Bool) (h : History) (a : Act) (r : Answer) → how_many f (h ++ entry a r ∷ []) ≡ how_many f h + one f a r
how_many_push f h a r = fold_push (λ b q n. cond (f b && obeyed q) (n + 1) n) 0 h (entry a r) ∙ one_more (f a && obeyed r) (how_many f h)

-- an act that is refused tells nothing
pub one_refused : (f : Act → Bool) (a : Act) (e : Refusal) → one f a (answer.Refused e) ≡ 0
one_refused f a e = ap (λ b. cond b 1 0) (and_right (f a) false refl)

pub after_refused : (i : ℕ) (a : Act) (e : Refusal) (v : Standing) → after_act i a (answer.Refused e) v ≡ v
after_refused i (act.Begin t) e v = refl
after_refused i (act.Run t c o) e v = refl
after_refused i (act.Commit t) e v = refl
after_refused i (act.Abort t) e v = refl
after_refused i (act.Suspect j) e v = refl
after_refused i act.Order e v = refl
after_refused i (act.Deliver j) e v = cond_same (eqb i j) v
after_refused i (act.Stop j) e v = refl
after_refused i (act.Start j) e v = refl

pub tells_refused : (i c k : ℕ) (a : Act) (e : Refusal) (l : List (Statement × ℕ)) → tells i c k a (answer.Refused e) l ≡ l
tells_refused i c k (act.Begin t) e l = refl
tells_refused i c k (act.Run t d o) e l = cond_same (same_id i c k t) l
tells_refused i c k (act.Commit t) e l = refl
tells_refused i c k (act.Abort t) e l = refl
tells_refused i c k (act.Suspect j) e l = refl
tells_refused i c k act.Order e l = refl
tells_refused i c k (act.Deliver j) e l = refl
tells_refused i c k (act.Stop j) e l = refl
tells_refused i c k (act.Start j) e l = refl

pub sent_refused : (a : Act) (e : Refusal) (h : History) → sent_by a (answer.Refused e) h ≡ []
sent_refused (act.Begin t) e h = refl
sent_refused (act.Run t c o) e h = refl
sent_refused (act.Commit t) e h = refl
sent_refused (act.Abort t) e h = refl
sent_refused (act.Suspect i) e h = refl
sent_refused act.Order e h = refl
sent_refused (act.Deliver i) e h = refl
sent_refused (act.Stop i) e h = refl
sent_refused (act.Start i) e h = refl

-- standings
same_standing : (f : ℕ → Site) (k : ℕ) (w : Site) → standing_of w ≡ standing_of (f k) → (i : ℕ) → standing_of (upd f k w i) ≡ standing_of (f i)
same_standing f k w e = upd_all (λ j v. standing_of v ≡ standing_of (f j)) f k w e (λ j ne. refl)

abbrev after_judged : ℕ → Judged → Standing → Standing
after_judged p accepted v = after_judgement p judgement.Accepted v
after_judged p stale v = after_judgement p judgement.Stale v
after_judged p committed v = after_judgement p judgement.Committed v
after_judged p late v = after_judgement p judgement.Late v
after_judged p (again q) v = after_judgement p (judgement.Again q) v

after_same : (p : ℕ) (j : Judgement) (v : Standing) → after_judged p (judged_of j) v ≡ after_judgement p j v
after_same p judgement.Accepted v = refl
after_same p judgement.Stale v = refl
after_same p judgement.Committed v = refl
after_same p judgement.Late v = refl
after_same p (judgement.Again q) v = refl

deliver_standing : (n : ℕ) (unit : ℕ → ℕ) (L W : List Msg) (i : ℕ) (v : Site) → Good n unit L W i v → v.running ≡ true → (j : Summary) (m : Msg) (w : Site) →
    Delivers i v j m w → standing_of w ≡ after_judged v.delivered (judge j m) (standing_of v)
deliver_standing n unit L W i v h up j m w (rises a e) = rw (a, e)
deliver_standing n unit L W i v h up j m w (is_stale a e) = rw (a, e)
deliver_standing n unit L W i v h up j m w (is_late a e) = rw (a, e)
deliver_standing n unit L W i v h up j m w (seals_own t s r k em a o ek e) =
    let l = h.local.leads s r o.open_row in
    let g : Fence L W i v.db.mark v.delivered v.epoch None = rw l.bar at (h.fence up) in
    let q = g.0 in
    let z : max v.db.mark (v.delivered + 1) ≡ v.delivered + 1 = omega arith in
    rw (a, e, z)
deliver_standing n unit L W i v h up j m w (takes_in t em a nx q e) =
    let z : max v.db.mark (v.delivered + 1) ≡ v.delivered + 1 = omega arith in
    rw (a, e, z)
deliver_standing n unit L W i v h up j m w (has_it t em a nx q e) =
    let z : max v.db.mark (v.delivered + 1) ≡ v.db.mark = omega arith in
    rw (a, e, z)
deliver_standing n unit L W i v h up j m w (ends_own t s r p em a o e) = rw (a, e)
deliver_standing n unit L W i v h up j m w (passes t p em a nx e) = rw (a, e)

pub standing_step : (s s' : State) (a : Act) (r : Answer) → Inv s → Obeys s s' a r → (y : ℕ) → standing_of (s'.servers y) ≡ after_act y a r (standing_of (s.servers y))
standing_step s s' a r h (begins t p up lead bar un em lt e) y = rw e (same_standing s.servers t.server _ refl y)
standing_step s s' a r h (runs_it t c o p w k st made x ek nh e) y = rw e (same_standing s.servers t.server _ refl y)
standing_step s s' a r h (commits t p w V W x lt ew e) y = rw e (same_standing s.servers t.server _ refl y)
standing_step s s' a r h (aborts t p w x e) y = rw e (same_standing s.servers t.server _ refl y)
standing_step s s' a r h (suspects i V W lt ew e) y = rw e
standing_step s s' a r h (orders m V W ew e) y = rw e
standing_step s s' a r h (delivers i m rest w j up here is d e) y =
    let v = s.servers i in
    let ds = deliver_standing s.count (s.units i) s.log s.waiting i v (h.good i) up (at s.log v.delivered) m w d
    ∙ ap (λ (x : Judged). after_judged v.delivered x (standing_of v)) is ∙ after_same v.delivered j (standing_of v) in
    rw e (elim (ℕ_discrete y i) [
      | yes q ↦ rw (q, upd_same s.servers i w, eq-eqb i i refl) ds
      | no nq ↦ rw (upd_other s.servers i w y nq, ne_eqb y i nq)
    ])
standing_step s s' a r h (stops i e) y =
    rw e (elim (ℕ_discrete y i) [
      | yes q ↦ rw (q, upd_same s.servers i _, eq-eqb i i refl)
      | no nq ↦ rw (upd_other s.servers i _ y nq, ne_eqb y i nq)
    ])
standing_step s s' a r h (starts i down e) y = rw e (same_standing s.servers i _ refl y)

-- the same transaction or another
same_self : (i c k : ℕ) (t : TransactionId) → i ≡ t.server → c ≡ t.client → k ≡ t.job → same_id i c k t ≡ true
same_self i c k t ei ec ek =
    and_from (eqb i t.server && eqb c t.client) (eqb k t.job)
    (and_from (eqb i t.server) (eqb c t.client) (eq-eqb i t.server ei) (eq-eqb c t.client ec)) (eq-eqb k t.job ek)

same_no : (i c k : ℕ) (t : TransactionId) → (i ≡ t.server → c ≡ t.client → k ≡ t.job → ⊥) → same_id i c k t ≡ false
same_no i c k t f =
    elim (ℕ_discrete k t.job) [
      | no nk ↦ and_right (eqb i t.server && eqb c t.client) (eqb k t.job) (ne_eqb k t.job nk)
      | yes z ↦ and_left (eqb i t.server && eqb c t.client) (eqb k t.job)
          (elim (ℕ_discrete c t.client) [
            | no nc ↦ and_right (eqb i t.server) (eqb c t.client) (ne_eqb c t.client nc)
            | yes q ↦ and_left (eqb i t.server) (eqb c t.client) (ne_eqb i t.server (λ p. f p q z))
          ])
    ]

-- a row's statements and results are what its client was told
abbrev pub Telling : Type 0
Telling = ℕ → ℕ → ℕ → List (Statement × ℕ)

abbrev pub more : Act → Answer → Telling → Telling
more a r h i c k = tells i c k a r (h i c k)

abbrev pub Heard : Telling → ℕ → Work → Type 0
Heard h i w = (w.stmts ≡ statements_told (h i w.client w.job)) × (w.results ≡ results_told (h i w.client w.job))

abbrev pub AllHeard : Telling → ℕ → Site → Type 0
AllHeard h i v = (p : ℕ) (w : Work) → v.rows p ≡ Some w → Heard h i w

-- another transaction's act
aside_begin : (h : Telling) (t : TransactionId) (j : ℕ) (w : Work) → (j ≡ t.server → w.client ≡ t.client → w.job ≡ t.job → ⊥) → Heard h j w →
    Heard (more (act.Begin t) answer.Done h) j w
aside_begin h t j w f g = rw (same_no j w.client w.job t f) g

aside_run : (h : Telling) (t : TransactionId) (c : ℕ) (o : Operation) (x : ℕ) (j : ℕ) (w : Work) → (j ≡ t.server → w.client ≡ t.client → w.job ≡ t.job → ⊥) → Heard h j w →
    Heard (more (act.Run t c o) (answer.Result x) h) j w
aside_run h t c o x j w f g = rw (same_no j w.client w.job t f) g

own_begin : (h : Telling) (t : TransactionId) → Heard (more (act.Begin t) answer.Done h) t.server (new_work t.client t.job)
own_begin h t = rw (same_self t.server t.client t.job t refl refl refl) (refl, refl)

own_run : (h : Telling) (t : TransactionId) (c : ℕ) (o : Operation) (a : Statement) (x : ℕ) (w : Work) → checked c o ≡ Some a → w.client ≡ t.client → w.job ≡ t.job →
    Heard h t.server w → Heard (more (act.Run t c o) (answer.Result x) h) t.server (noted w a x)
own_run h t c o a x w made ec ek g =
    let i = t.server in
    rw (same_self i w.client w.job t refl ec ek, made) (
      ap (λ (z : List Statement). z ++ a ∷ []) g.0 ∙ sym (map-append (λ z. z.0) (h i w.client w.job) ((a, x) ∷ [])),
      ap (λ (z : List ℕ). z ++ x ∷ []) g.1 ∙ sym (map-append (λ z. z.1) (h i w.client w.job) ((a, x) ∷ [])),
    )

closed : (f : ℕ → Option Work) (s p : ℕ) (w : Work) → upd f s None p ≡ Some w → f p ≡ Some w
closed f s p w g = elim (upd_view f s None p (Some w) g) [ new q x ↦ absurd (none_some None w refl x) | old q x ↦ x ]

run_heard : (h : Telling) (t : TransactionId) (c : ℕ) (o : Operation) (f : ℕ → Option Work) (p : ℕ) (row : Work) (a : Statement) (x : ℕ) → checked c o ≡ Some a →
    f p ≡ Some row → row.client ≡ t.client → row.job ≡ t.job →
    ((q : ℕ) (w : Work) → f q ≡ Some w → w.client ≡ t.client → w.job ≡ t.job → q ≡ p) → ((q : ℕ) (w : Work) → f q ≡ Some w → Heard h t.server w) →
    (q : ℕ) (w : Work) → upd f p (Some (noted row a x)) q ≡ Some w → Heard (more (act.Run t c o) (answer.Result x) h) t.server w
run_heard h t c o f p row a x made ep ec ek alone all q w eq =
    elim (upd_view f p (Some (noted row a x)) q (Some w) eq) [
      | new z y ↦ let u : noted row a x ≡ w = cc in subst (Heard (more (act.Run t c o) (answer.Result x) h) t.server) u (own_run h t c o a x row made ec ek (all p row ep))
      | old z y ↦ aside_run h t c o x t.server w (λ _ fc fk. z (alone q w y fc fk)) (all q w y)
    ]

deliver_rows : (i : ℕ) (v : Site) (j : Summary) (m : Msg) (w : Site) → Delivers i v j m w → (p : ℕ) (x : Work) → w.rows p ≡ Some x → v.rows p ≡ Some x
deliver_rows i v j m w (rises a e) p x g = absurd (none_some None x refl (rw e at g))
deliver_rows i v j m w (is_stale a e) p x g = rw e at g
deliver_rows i v j m w (is_late a e) p x g = rw e at g
deliver_rows i v j m w (seals_own t s y k em a o ek e) p x g = closed v.rows s p x (rw e at g)
deliver_rows i v j m w (takes_in t em a nx q e) p x g = rw e at g
deliver_rows i v j m w (has_it t em a nx q e) p x g = rw e at g
deliver_rows i v j m w (ends_own t s y k em a o e) p x g = closed v.rows s p x (rw e at g)
deliver_rows i v j m w (passes t q em a nx e) p x g = rw e at g

pub heard_step : (h : Telling) (s s' : State) (a : Act) (r : Answer) → Inv s → ((i : ℕ) → AllHeard h i (s.servers i)) → Obeys s s' a r →
    (i : ℕ) → AllHeard (more a r h) i (s'.servers i)
heard_step h s s' a r g all (begins t p up lead bar un em lt e) =
    let i = t.server in
    rw e (upd_all (AllHeard (more (act.Begin t) answer.Done h)) s.servers i _
    (λ q w eq. elim (upd_view (s.servers i).rows p (Some (new_work t.client t.job)) q (Some w) eq) [
      | new x y ↦ let z : new_work t.client t.job ≡ w = cc in subst (Heard (more (act.Begin t) answer.Done h) i) z (own_begin h t)
      | old x y ↦ aside_begin h t i w (λ z. un q w y) (all i q w y)
    ])
    (λ j ne q w eq. aside_begin h t j w (λ z. absurd (ne z)) (all j q w eq)))
heard_step h s s' a r g all (runs_it t c o p w k st made x ek nh e) =
    let i = t.server in
    rw e (upd_all (AllHeard (more a r h)) s.servers i _
    (run_heard h t c o (s.servers i).rows p w st (answered st.operation (found (s.servers i).db k st)) made x.open_row x.client x.job
    (λ q y eq ec ej. (g.good i).local.alone q p y w eq x.open_row (ec ∙ sym x.client) (ej ∙ sym x.job)) (all i))
    (λ j ne q y eq. aside_run h t c o _ j y (λ z. absurd (ne z)) (all j q y eq)))
heard_step h s s' a r g all (commits t p w V W x lt ew e) =
    let i = t.server in
    rw e (upd_all (AllHeard h) s.servers i _
    (λ q y eq. elim (upd_view (s.servers i).rows p (Some (committing_now w)) q (Some y) eq) [
      | new z u ↦ let k : committing_now w ≡ y = cc in subst (Heard h i) k (all i p w x.open_row)
      | old z u ↦ all i q y u
    ])
    (λ j ne. all j))
heard_step h s s' a r g all (aborts t p w x e) =
    let i = t.server in
    rw e (upd_all (AllHeard h) s.servers i _ (λ q y eq. all i q y (closed (s.servers i).rows p q y eq)) (λ j ne. all j))
heard_step h s s' a r g all (suspects i V W lt ew e) = rw e all
heard_step h s s' a r g all (orders m V W ew e) = rw e all
heard_step h s s' a r g all (delivers i m rest w j up here is d e) =
    rw e (upd_all (AllHeard h) s.servers i w (λ q y eq. all i q y (deliver_rows i (s.servers i) _ m w d q y eq)) (λ j ne. all j))
heard_step h s s' a r g all (stops i e) =
    rw e (upd_all (AllHeard h) s.servers i _ (λ q y eq. absurd (none_some None y refl eq)) (λ j ne. all j))
heard_step h s s' a r g all (starts i down e) =
    rw e (upd_all (AllHeard h) s.servers i _ (λ q y eq. all i q y eq) (λ j ne. all j))

-- messages
offered : (L V W X : List Msg) (m : Msg) → Perm (L ++ (V ++ W)) X → Perm (L ++ (V ++ m ∷ W)) (X ++ m ∷ [])
offered L V W X m h =
    let a : Perm ((L ++ V) ++ m ∷ W) (m ∷ ((L ++ V) ++ W)) = perm_middle (L ++ V) W in
    let b : Perm ((L ++ V) ++ W) X = rw (append_assoc L V W) h in
    rw (append_assoc L V (m ∷ W)) at (mathlib.Core.List.Perm.trans a (mathlib.Core.List.Perm.trans (mathlib.Core.List.Perm.cons m b) (mathlib.Core.List.Perm.symm (perm_append_singleton m X))))

moved : (L V W X : List Msg) (m : Msg) → Perm (L ++ (V ++ m ∷ W)) X → Perm ((L ++ m ∷ []) ++ (V ++ W)) X
moved L V W X m h =
    let a : Perm ((L ++ V) ++ m ∷ W) (m ∷ ((L ++ V) ++ W)) = perm_middle (L ++ V) W in
    let b : Perm (L ++ (V ++ m ∷ W)) (m ∷ (L ++ (V ++ W))) = rw (append_assoc L V (m ∷ W), append_assoc L V W) at a in
    let c : Perm (L ++ m ∷ (V ++ W)) (m ∷ (L ++ (V ++ W))) = perm_middle L (V ++ W) in
    rw (append_assoc L (m ∷ []) (V ++ W)) (mathlib.Core.List.Perm.trans c (mathlib.Core.List.Perm.trans (mathlib.Core.List.Perm.symm b) h))

message_told : (h : History) (i c k : ℕ) (v : Site) (w : Work) → v.epoch ≡ (standing i h).epoch → w.client ≡ c → w.job ≡ k → Heard (λ j d l. told j d l h) i w →
    message_of i v w ≡ transaction (commit_of i c k h)
message_told h i c k v w e ec ek g =
    let a : w.stmts ≡ statements_told (told i c k h) = rw (ec, ek) at g.0 in
    let b : w.results ≡ results_told (told i c k h) = rw (ec, ek) at g.1 in
    λ z. transaction (record { sender = i; epoch = e z; client = ec z; job = ek z; stmts = a z; results = b z })

pub sent_step : (h : History) (s s' : State) (a : Act) (r : Answer) → ((i : ℕ) → standing_of (s.servers i) ≡ standing i h) →
    ((i : ℕ) → AllHeard (λ j d l. told j d l h) i (s.servers i)) → Perm (s.log ++ s.waiting) (all_sent h) → Obeys s s' a r →
    Perm (s'.log ++ s'.waiting) (all_sent h ++ sent_by a r h)
sent_step h s s' a r st all g (begins t p up lead bar un em lt e) = rw (e, append-nil (all_sent h)) g
sent_step h s s' a r st all g (runs_it t c o p w k y made x ek nh e) = rw (e, append-nil (all_sent h)) g
sent_step h s s' a r st all g (commits t p w V W x lt ew e) =
    let i = t.server in
    let m = message_told h i t.client t.job (s.servers i) w (ap (λ (z : Standing). z.epoch) (st i)) x.client x.job (all i p w x.open_row) in
    rw (e, m) (offered s.log V W (all_sent h) (transaction (commit_of i t.client t.job h)) (rw ew at g))
sent_step h s s' a r st all g (aborts t p w x e) = rw (e, append-nil (all_sent h)) g
sent_step h s s' a r st all g (suspects i V W lt ew e) =
    let f = ap (λ (z : Standing). z.epoch) (st i) in
    rw (e, f) (offered s.log V W (all_sent h) (epoch_change i (standing i h).epoch) (rw ew at g))
sent_step h s s' a r st all g (orders m V W ew e) = rw (e, append-nil (all_sent h)) (moved s.log V W (all_sent h) m (rw ew at g))
sent_step h s s' a r st all g (delivers i m rest w j up here is d e) = rw (e, append-nil (all_sent h)) g
sent_step h s s' a r st all g (stops i e) = rw (e, append-nil (all_sent h)) g
sent_step h s s' a r st all g (starts i down e) = rw (e, append-nil (all_sent h)) g

pub count_step : (s s' : State) (a : Act) (r : Answer) → Obeys s s' a r → s'.sent ≡ s.sent + (one is_commit a r + one is_suspect a r)
count_step s s' a r (begins t p up lead bar un em lt e) = let q = ap (λ (x : State). x.sent) e in omega arith
count_step s s' a r (runs_it t c o p w k st made x ek nh e) = let q = ap (λ (x : State). x.sent) e in omega arith
count_step s s' a r (commits t p w V W x lt ew e) = let q = ap (λ (x : State). x.sent) e in omega arith
count_step s s' a r (aborts t p w x e) = let q = ap (λ (x : State). x.sent) e in omega arith
count_step s s' a r (suspects i V W lt ew e) = let q = ap (λ (x : State). x.sent) e in omega arith
count_step s s' a r (orders m V W ew e) = let q = ap (λ (x : State). x.sent) e in omega arith
count_step s s' a r (delivers i m rest w j up here is d e) = let q = ap (λ (x : State). x.sent) e in omega arith
count_step s s' a r (stops i e) = let q = ap (λ (x : State). x.sent) e in omega arith
count_step s s' a r (starts i down e) = let q = ap (λ (x : State). x.sent) e in omega arith

-- judgements
stands_more : (L L' l : List Msg) (p : ℕ) (m : Msg) (j : Judged) → L' ≡ L ++ l → Stands L p m j → Stands L' p m j
unfolding at
stands_more L L' l p m j e g =
    let lt = length_here L p m g.rest g.here in
    let le : p ≤ length L = omega arith in
    rw e (record {
      rest = g.rest ++ l;
      here = drop-append-le p L l le ∙ ap (λ (z : List Msg). z ++ l) g.here;
      is = rw (take-append-le p L l le) g.is;
    })

abbrev pub ToldRight : List Msg → Entry → Type 0
ToldRight L x = (i p : ℕ) (j : Judgement) → x.act ≡ act.Deliver i → x.answer ≡ answer.Delivered p j → (y : Msg) × Stands L p y (judged_of j)

pub still_right : (L L' l : List Msg) → L' ≡ L ++ l → (x : Entry) → ToldRight L x → ToldRight L' x
still_right L L' l e x g i p j ea er = let w = g i p j ea er in (w.0, stands_more L L' l p w.0 (judged_of j) e w.1)

pub tells_right : (s s' : State) (a : Act) (r : Answer) → Obeys s s' a r → ToldRight s.log (entry a r)
tells_right s s' a r (begins t p up lead bar un em lt e) y q j ea er = let z : ◌≡◌ {A = ℕ} 0 1 = cc in absurd (omega arith)
tells_right s s' a r (runs_it t c o p w k st made x ek nh e) y q j ea er = let z : ◌≡◌ {A = ℕ} 0 1 = cc in absurd (omega arith)
tells_right s s' a r (commits t p w V W x lt ew e) y q j ea er = let z : ◌≡◌ {A = ℕ} 0 1 = cc in absurd (omega arith)
tells_right s s' a r (aborts t p w x e) y q j ea er = let z : ◌≡◌ {A = ℕ} 0 1 = cc in absurd (omega arith)
tells_right s s' a r (suspects i V W lt ew e) y q j ea er = let z : ◌≡◌ {A = ℕ} 0 1 = cc in absurd (omega arith)
tells_right s s' a r (orders m V W ew e) y q j ea er = let z : ◌≡◌ {A = ℕ} 0 1 = cc in absurd (omega arith)
tells_right s s' a r (delivers i m rest w k up here is d e) y q j ea er =
    let f : (s.servers i).delivered ≡ q = cc in
    let g : k ≡ j = cc in
    (m, record { rest = rest; here = rw f at here; is = rw (f, g) at is })
tells_right s s' a r (stops i e) y q j ea er = let z : ◌≡◌ {A = ℕ} 0 1 = cc in absurd (omega arith)
tells_right s s' a r (starts i down e) y q j ea er = let z : ◌≡◌ {A = ℕ} 0 1 = cc in absurd (omega arith)

pub refused_right : (L : List Msg) (a : Act) (r : Answer) (e : Refusal) → r ≡ answer.Refused e → ToldRight L (entry a r)
refused_right L a r e is i p j ea er = let z : ◌≡◌ {A = ℕ} 0 1 = cc in absurd (omega arith)
