-- The longest right front of a text is one, and so is its fault.
use Rattle.std.proofs.Common.{◌≡◌, ℕ, ◌<◌, ◌≤◌, ◌⊎◌, List, [], ◌∷◌, map, length, sym, refl, ap, ◌∙◌, subst, inl, inr, ⊎_elim, arith, length-append}
use Rattle.std.proofs.str.Laws.{order}
use Rattle.std.proofs.lemmas.List.{length-map}
use Rattle.run_file.specs.declared.sections.Section.TheVariants.{Names, Steps}
use Rattle.run_file.specs.declared.steps.Line.{Line}
use Rattle.run_file.specs.declared.faults.Why.{Why}
use Rattle.run_file.specs.declared.faults.Why.TheVariants as why
use Rattle.run_file.specs.Form.{ended, head, Front, nothing, in_names, in_steps, lines_in, Right, Begins}
use Rattle.run_file.specs.Outcomes.{own, Accepted, CommandNext, Wrong, FaultyLine, Faulty}
use Rattle.run_file.specs.Unique.{OneFault, NoFault}
use Rattle.run_file.proofs.Ended.{Lines, head_is, tail_is, longer, same_lines, parted_same}
use Rattle.run_file.proofs.Fronts.{head_count, front_free}

-- what can be wrong, by sections
wrong_nothing : (r : List ℕ) (w : Why) → Wrong nothing r w → w ≡ why.Head
wrong_nothing r why.TooLong h = absurd h
wrong_nothing r why.Head h = refl
wrong_nothing r why.Name h = absurd h
wrong_nothing r why.Step h = absurd h
wrong_nothing r why.Unlisted h = absurd h
wrong_nothing r why.Leftover h = absurd h

wrong_names : (k : ℕ) (ns : Lines) (r : List ℕ) (w : Why) → Wrong (in_names k ns) r w → ((w ≡ why.Head) × (length ns ≡ k)) ⊎ ((w ≡ why.Name) × (length ns < k))
wrong_names k ns r why.TooLong h = absurd h
wrong_names k ns r why.Head h = inl (refl, h)
wrong_names k ns r why.Name h = inr (refl, h)
wrong_names k ns r why.Step h = absurd h
wrong_names k ns r why.Unlisted h = absurd h
wrong_names k ns r why.Leftover h = absurd h

-- in the steps: no command, an unlisted one, or bytes left
abbrev InSteps : ℕ → Lines → List ℕ → Why → Type 0
InSteps n ts r w =
    ((w ≡ why.Step) × (length ts < n) × (CommandNext r → ⊥)) ⊎ (((w ≡ why.Unlisted) × (length ts < n) × CommandNext r) ⊎ ((w ≡ why.Leftover) × (length ts ≡ n) × (r ≡ [] → ⊥)))

wrong_steps : (ns : Lines) (n : ℕ) (ts : Lines) (r : List ℕ) (w : Why) → Wrong (in_steps ns n ts) r w → InSteps n ts r w
wrong_steps ns n ts r why.TooLong h = absurd h
wrong_steps ns n ts r why.Head h = absurd h
wrong_steps ns n ts r why.Name h = absurd h
wrong_steps ns n ts r why.Step h = inl (refl, h.0, h.1)
wrong_steps ns n ts r why.Unlisted h = inr (inl (refl, h.0, h.1))
wrong_steps ns n ts r why.Leftover h = inr (inr (refl, h.0, h.1))

both_names : (k j : ℕ) (ns ms : Lines) (w v : Why) → k ≡ j → length ns ≡ length ms → ((w ≡ why.Head) × (length ns ≡ k)) ⊎ ((w ≡ why.Name) × (length ns < k)) → ((v ≡ why.Head) × (length ms ≡ j)) ⊎ ((v ≡ why.Name) × (length ms < j)) → w ≡ v
both_names k j ns ms w v e l a b =
    ⊎_elim (λ x. ⊎_elim (λ y. x.0 ∙ sym y.0) (λ y. absurd (omega (arith, x.1, y.1))) b) (λ x. ⊎_elim (λ y. absurd (omega (arith, x.1, y.1))) (λ y. x.0 ∙ sym y.0) b) a

both_steps : (n m : ℕ) (ts us : Lines) (r : List ℕ) (w v : Why) → n ≡ m → length ts ≡ length us → InSteps n ts r w → InSteps m us r v → w ≡ v
both_steps n m ts us r w v e l a b =
    ⊎_elim
    (λ x. ⊎_elim (λ y. x.0 ∙ sym y.0) (λ z. ⊎_elim (λ y. absurd (x.2 y.2)) (λ y. absurd (omega (arith, x.1, y.1))) z) b)
    (λ z. ⊎_elim
    (λ x. ⊎_elim (λ y. absurd (y.2 x.2)) (λ q. ⊎_elim (λ y. x.0 ∙ sym y.0) (λ y. absurd (omega (arith, x.1, y.1))) q) b)
    (λ x. ⊎_elim (λ y. absurd (omega (arith, x.1, y.1))) (λ q. ⊎_elim (λ y. absurd (omega (arith, x.1, y.1))) (λ y. x.0 ∙ sym y.0) q) b)
    z)
    a

-- two fronts with the same lines in the steps
pub same_steps : (ns ms : Lines) (n m : ℕ) (ts us : Lines) → Right (in_steps ns n ts) → Right (in_steps ms m us) → lines_in (in_steps ns n ts) ≡ lines_in (in_steps ms m us) → (ns ≡ ms) × (n ≡ m) × (ts ≡ us)
same_steps ns ms n m ts us a b e =
    let x = parted_same ns ms (head Steps n ∷ ts) (head Steps m ∷ us) (tail_is e) (head_count Names (length ns) (length ms) a.0 b.0 (head_is e)) in
    (x.0, head_count Steps n m a.2 b.2 (head_is x.1), tail_is x.1)

-- names that fill more than their count
too_many : (k : ℕ) (ns : Lines) (ms : Lines) (n : ℕ) (ts : Lines) → Right (in_names k ns) → Right (in_steps ms n ts) → lines_in (in_names k ns) ≡ lines_in (in_steps ms n ts) → ⊥
too_many k ns ms n ts a b e =
    omega (arith, head_count Names k (length ms) a.0 b.0 (head_is e), a.1, ap length (tail_is e), length-append ms (head Steps n ∷ ts))

same_why : (f g : Front) (r : List ℕ) (w v : Why) → Right f → Right g → lines_in f ≡ lines_in g → Wrong f r w → Wrong g r v → w ≡ v
same_why nothing nothing r w v a b e x y = wrong_nothing r w x ∙ sym (wrong_nothing r v y)
same_why nothing (in_names k ns) r w v a b e x y = absurd (omega (arith, ap length e))
same_why nothing (in_steps ns n ts) r w v a b e x y = absurd (omega (arith, ap length e))
same_why (in_names k ns) nothing r w v a b e x y = absurd (omega (arith, ap length e))
same_why (in_names k ns) (in_names j ms) r w v a b e x y =
    both_names k j ns ms w v (head_count Names k j a.0 b.0 (head_is e)) (ap length (tail_is e)) (wrong_names k ns r w x) (wrong_names j ms r v y)
same_why (in_names k ns) (in_steps ms n ts) r w v a b e x y = absurd (too_many k ns ms n ts a b e)
same_why (in_steps ns n ts) nothing r w v a b e x y = absurd (omega (arith, ap length e))
same_why (in_steps ns n ts) (in_names k ms) r w v a b e x y = absurd (too_many k ms ns n ts b a (sym e))
same_why (in_steps ns n ts) (in_steps ms m us) r w v a b e x y =
    let s = same_steps ns ms n m ts us a b e in
    both_steps n m ts us r w v s.1 (ap length s.2) (wrong_steps ns n ts r w x) (wrong_steps ms m us r v y)

-- two fronts of as many lines are the same lines
pub same_front : (text : List ℕ) (f g : Front) (r q : List ℕ) → Begins text f r → Begins text g q → length (lines_in f) ≡ length (lines_in g) → (lines_in f ≡ lines_in g) × (r ≡ q)
same_front text f g r q a b l = same_lines (lines_in f) (lines_in g) (front_free f a.0) (front_free g b.0) (sym a.1 ∙ b.1) l

one_line : (text : List ℕ) (w v : Why) (a b : ℕ) → FaultyLine text w a → FaultyLine text v b → (w ≡ v) × (a ≡ b)
one_line text w v a b x y =
    let f = x.front in
    let g = y.front in
    let l : length (lines_in f) ≡ length (lines_in g) = omega (arith, x.longest.longest g y.rest y.longest.begins, y.longest.longest f x.rest x.longest.begins) in
    let s = same_front text f g x.rest y.rest x.longest.begins y.longest.begins l in (
      same_why f g x.rest w v x.longest.begins.0 y.longest.begins.0 s.0 x.wrong (subst (λ (t : List ℕ). Wrong g t v) (sym s.1) y.wrong),
      omega (arith, x.line, y.line, l),
    )

by_length : (text : List ℕ) (w : Why) (a : ℕ) → Faulty text w a → ((w ≡ why.TooLong) × (32768 < length text) × (a ≡ 0)) ⊎ ((length text ≤ 32768) × FaultyLine text w a)
by_length text why.TooLong a h = inl (refl, h.0, h.1)
by_length text why.Head a h = inr h
by_length text why.Name a h = inr h
by_length text why.Step a h = inr h
by_length text why.Unlisted a h = inr h
by_length text why.Leftover a h = inr h

pub one_fault : OneFault
one_fault text w v a b x y =
    ⊎_elim
    (λ p. ⊎_elim (λ q. (p.0 ∙ sym q.0, p.2 ∙ sym q.2)) (λ q. absurd (omega (arith, p.1, q.0))) (by_length text v b y))
    (λ p. ⊎_elim (λ q. absurd (omega (arith, p.0, q.1))) (λ q. one_line text w v a b p.1 q.1) (by_length text v b y))
    (by_length text w a x)

-- a whole file is its own longest front
no_more : (text : List ℕ) (f g : Front) (q : List ℕ) → Begins text f [] → Begins text g q → length (lines_in g) ≤ length (lines_in f)
no_more text f g q a b =
    ⊎_elim
    (λ less.
    let x = longer (lines_in f) (lines_in g) (front_free f a.0) (front_free g b.0) (sym a.1 ∙ b.1) less in
    absurd (omega (arith, ap length x.rest, length-append x.line (10 ∷ ended x.lines q))))
    (λ le. le)
    (order (length (lines_in f)) (length (lines_in g)))

not_wrong : (ns ms : Lines) (ts : Lines) (g : Front) (r : List ℕ) (w : Why) → Right (in_steps ns (length ts) ts) → Right g → lines_in (in_steps ns (length ts) ts) ≡ lines_in g → r ≡ [] → Wrong g r w → ⊥
not_wrong ns ms ts nothing r w a b e none h = omega (arith, ap length e)
not_wrong ns ms ts (in_names k ks) r w a b e none h = too_many k ks ns (length ts) ts b a (sym e)
not_wrong ns ms ts (in_steps ks n us) r w a b e none h =
    let s = same_steps ns ks (length ts) n ts us a b e in
    ⊎_elim
    (λ x. omega (arith, x.1, s.1, ap length s.2))
    (λ z. ⊎_elim (λ x. omega (arith, x.1, s.1, ap length s.2)) (λ x. x.2 none) z)
    (wrong_steps ks n us r w h)

pub no_fault : NoFault
no_fault text ns ls w a x y =
    let n = length ls in
    let P : ℕ → Type 0 = λ m. Begins text (in_steps ns m (map own ls)) [] in
    let whole : Begins text (in_steps ns (length (map own ls)) (map own ls)) [] = subst P (sym (length-map ls own)) x.whole in
    let f : Front = in_steps ns (length (map own ls)) (map own ls) in
    ⊎_elim
    (λ p. omega (arith, p.1, x.fits))
    (λ p.
    let g = p.1.front in
    let l : length (lines_in f) ≡ length (lines_in g) = omega (arith, no_more text f g p.1.rest whole p.1.longest.begins, p.1.longest.longest f [] whole) in
    let s = same_front text f g [] p.1.rest whole p.1.longest.begins l in
    not_wrong ns ns (map own ls) g p.1.rest w whole.0 p.1.longest.begins.0 s.0 (sym s.1) p.1.wrong)
    (by_length text w a y)

-- two readings have the same names and lines
pub same_file : (text : List ℕ) (ns ms : Lines) (ls ks : List Line) → Accepted text ns ls → Accepted text ms ks → (ns ≡ ms) × (map own ls ≡ map own ks)
same_file text ns ms ls ks x y =
    let f : Front = in_steps ns (length ls) (map own ls) in
    let g : Front = in_steps ms (length ks) (map own ks) in
    let l : length (lines_in f) ≡ length (lines_in g) = omega (arith, no_more text f g [] x.whole y.whole, no_more text g f [] y.whole x.whole) in
    let s = same_front text f g [] [] x.whole y.whole l in
    let t = same_steps ns ms (length ls) (length ks) (map own ls) (map own ks) x.whole.0 y.whole.0 s.0 in
    (t.0, t.2)
