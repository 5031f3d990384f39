-- A message of a lawful log was sent by an obeyed commit of the history. From the messages that were sent, act by act.
use Rattle.std.proofs.Common.{◌≡◌, ℕ, List, [], ◌∷◌, ◌++◌, take, drop, refl, subst, arith}
use mathlib.Core.Logic.Or
use mathlib.Core.Logic.{∥∥₁_map, ∥∥₁_prop}
use mathlib.Core.List.Memᴰ
use mathlib.Core.List.Perm
use mathlib.Core.List.{Mem, mem-append, mem-append_left, mem-append_right, eq-or-mem_of_mem-cons, not-mem-nil}
use Rattle.std.proofs.lemmas.List.{append_assoc, take-append-drop}
use Rattle.message.specs.Messages.{Tx, Msg, transaction}
use Rattle.journal.specs.Judging.{committed}
use Rattle.journal.specs.Runs.{answers}
use Rattle.journal.specs.Positions.{Stands, single_run}
use Rattle.pronto.specs.Histories.{History, told, statements_told, results_told, commit_of, sent_by, sent_after}
use Rattle.pronto.specs.Law.{Origin, ToldSo}
use Rattle.pronto.specs.declared.acts.Act.{Act}
use Rattle.pronto.specs.declared.acts.Act.TheVariants as act
use Rattle.pronto.specs.declared.acts.Answer.{Answer}
use Rattle.pronto.specs.declared.acts.Answer.TheVariants as answer
use Rattle.pronto.proofs.Told.{entry}

none_sent : (m : Msg) {A : Type 0} → Mem m [] → ∥ A ∥₁
none_sent m h = absurd (not-mem-nil h)

one_origin : (g h : History) (a : Act) (r : Answer) (t : Tx) → Mem (transaction t) (sent_by a r g) → ∥ Origin (g ++ entry a r ∷ h) t ∥₁
one_origin g h (act.Commit id) answer.Done t z =
    Or.elim ∥∥₁_prop (eq-or-mem_of_mem-cons z)
    (λ e.
    let q : t ≡ commit_of id.server id.client id.job g = cc in
    ∣ record { earlier = g; later = h; id = id; server = rw q refl; client = rw q refl; job = rw q refl; here = refl; is = rw q refl } ∣₁)
    (none_sent (transaction t))
one_origin g h (act.Commit id) (answer.Result x) t z = none_sent (transaction t) z
one_origin g h (act.Commit id) (answer.Ordered x) t z = none_sent (transaction t) z
one_origin g h (act.Commit id) (answer.Delivered x j) t z = none_sent (transaction t) z
one_origin g h (act.Commit id) (answer.Refused x) t z = none_sent (transaction t) z
one_origin g h (act.Suspect i) answer.Done t z =
    Or.elim ∥∥₁_prop (eq-or-mem_of_mem-cons z) (λ e. let y : ◌≡◌ {A = ℕ} 0 1 = cc in absurd (omega arith)) (none_sent (transaction t))
one_origin g h (act.Suspect i) (answer.Result x) t z = none_sent (transaction t) z
one_origin g h (act.Suspect i) (answer.Ordered x) t z = none_sent (transaction t) z
one_origin g h (act.Suspect i) (answer.Delivered x j) t z = none_sent (transaction t) z
one_origin g h (act.Suspect i) (answer.Refused x) t z = none_sent (transaction t) z
one_origin g h (act.Begin id) r t z = none_sent (transaction t) z
one_origin g h (act.Run id c o) r t z = none_sent (transaction t) z
one_origin g h (act.Abort id) r t z = none_sent (transaction t) z
one_origin g h act.Order r t z = none_sent (transaction t) z
one_origin g h (act.Deliver i) r t z = none_sent (transaction t) z
one_origin g h (act.Stop i) r t z = none_sent (transaction t) z
one_origin g h (act.Start i) r t z = none_sent (transaction t) z

origin : (g h : History) (t : Tx) → Mem (transaction t) (sent_after g h) → ∥ Origin (g ++ h) t ∥₁
origin g [] t z = none_sent (transaction t) z
origin g (x ∷ h) t z =
    Or.elim ∥∥₁_prop ((mem-append {s = sent_by x.act x.answer g}).0 z)
    (one_origin g h x.act x.answer t)
    (λ y. rw (append_assoc g (x ∷ []) h) at (origin (g ++ x ∷ []) h t y))

mem_here : (l W : List Msg) (p : ℕ) (m : Msg) (rest : List Msg) → drop p l ≡ m ∷ rest → Mem m (l ++ W)
mem_here l W p m rest e =
    let a : Mem m (m ∷ rest) = ∣ Memᴰ.head refl ∣₁ in
    let b : Mem m (drop p l) = rw e a in
    mem-append_left W (rw (take-append-drop p l) at (mem-append_right (take p l) b))

same_id : (P : ℕ → ℕ → ℕ → Type 0) (i j c d k l : ℕ) → i ≡ j → c ≡ d → k ≡ l → P i c k → P j d l
same_id P i j c d k l ei ec ek h = subst (P j d) ek (subst (λ x. P j x k) ec (subst (λ x. P x c k) ei h))

pub told_so : ToldSo
told_so h s g p t z =
    ∥∥₁_map (origin [] h t ((Perm.mem_iff g.messages).0 (mem_here s.log s.waiting p (transaction t) z.rest z.here)))
    (λ o. (
      o,
      same_id
          (λ i c k. Stands s.log p (transaction (commit_of i c k o.earlier)) committed →
          results_told (told i c k o.earlier) ≡ answers (statements_told (told i c k o.earlier)) (single_run s.log p))
          o.id.server t.sender o.id.client t.client o.id.job t.job o.server o.client o.job
          (g.confirmed o.earlier o.later o.id p o.here)
          (subst (λ (x : Tx). Stands s.log p (transaction x) committed) o.is z),
    ))
