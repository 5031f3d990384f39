-- A step line says one step.
use Rattle.std.proofs.Common.{◌≡◌, ℕ, ◌^◌, ◌<◌, ◌≤◌, List, [], ◌∷◌, map, length, get_or, Some, None, decimal, Option, sym, refl, ap, ◌∙◌, subst, ⊎_elim, arith}
use Rattle.std.specs.Str.Parse.{digits_value}
use Rattle.std.proofs.str.Laws.{order}
use Rattle.std.proofs.lemmas.Fmt.{decimal_is_IsNumeral}
use Rattle.pronto.specs.declared.acts.Act.TheVariants as act
use Rattle.commands.specs.declared.openings.Opening.{Opening}
use Rattle.commands.specs.declared.openings.Opening.TheVariants as opening
use Rattle.commands.specs.declared.shapes.Target.{Target}
use Rattle.commands.specs.declared.shapes.Command.{Command}
use Rattle.commands.specs.declared.shapes.Command.TheVariants.{Order, Cell, Server, Job, Read, Store, Member}
use Rattle.commands.specs.Words.{opens_with, further_words, Aimed, Proper}
use Rattle.commands.specs.Lines.{written}
use Rattle.commands.proofs.FirstWords.{same_opening}
use Rattle.run_file.specs.declared.steps.Step.{Step}
use Rattle.run_file.specs.declared.steps.Step.TheVariants as step
use Rattle.run_file.specs.declared.steps.Line.{Line}
use Rattle.run_file.specs.Steps.{act_of_server, act_of_job, reading, storing, changing, step_at, name_in, Numbered}
use Rattle.run_file.specs.Form.{AllNames}
use Rattle.run_file.specs.Outcomes.{own, Says, AllSay}
use Rattle.run_file.specs.Unique.{step_in, OneReading}
use Rattle.run_file.proofs.Ended.{Lines, head_is, tail_is}
use Rattle.run_file.proofs.Growing.{same_words, same_name}
use Rattle.run_file.proofs.OneFault.{same_file}

-- the number that a word writes
abbrev number_at : Lines → ℕ → ℕ
number_at ws i = digits_value 10 (get_or ws i [])

read_back : (n : ℕ) → n < 2 ^ 64 → digits_value 10 (decimal n) ≡ n
read_back n h = (decimal_is_IsNumeral n h).1

-- the step, from the opening and the further words
abbrev decoded : ℕ → Opening → Lines → Step
decoded k opening.Order ws = step.Act act.Order
decoded k opening.Cell ws = step.Cell (number_at ws 0) (number_at ws 1)
decoded k (opening.Server v) ws = step.Act (act_of_server v (number_at ws 0))
decoded k (opening.Job v) ws = step.Act (act_of_job v (record { server = number_at ws 0; client = k; job = number_at ws 2 }))
decoded k (opening.Read v) ws = step.Act (act.Run (record { server = number_at ws 0; client = k; job = number_at ws 2 }) (number_at ws 3) (reading v))
decoded k (opening.Store v) ws = step.Act (act.Run (record { server = number_at ws 0; client = k; job = number_at ws 2 }) (number_at ws 3) (storing v (number_at ws 4)))
decoded k (opening.Member v) ws = step.Act (act.Run (record { server = number_at ws 0; client = k; job = number_at ws 2 }) (number_at ws 3) (changing v (number_at ws 4)))

small : (n : ℕ) → n ≤ 255 → digits_value 10 (decimal n) ≡ n
small n h = read_back n (omega arith)

job_back : (t : Target) → Aimed t → digits_value 10 (decimal t.job) ≡ t.job
job_back t a = read_back t.job (omega (arith, a.job))

decodes : (k : ℕ) (c : Command) → Proper c → decoded k (opens_with c) (further_words c) ≡ step_at k c
decodes k Order good = refl
decodes k (Cell server cell) good = (λ i. step.Cell (small server good.0 i) (small cell good.1 i))
decodes k (Server v server) good = (λ i. step.Act (act_of_server v (small server good i)))
decodes k (Job v t) good = (λ i. step.Act (act_of_job v (record { server = small t.server good.server i; client = k; job = job_back t good i })))
decodes k (Read v t cell) good =
    (λ i. step.Act (act.Run (record { server = small t.server good.0.server i; client = k; job = job_back t good.0 i }) (small cell good.1 i) (reading v)))
decodes k (Store v t cell digits_value) good =
    (λ i. step.Act (act.Run (record { server = small t.server good.0.server i; client = k; job = job_back t good.0 i }) (small cell good.1 i) (storing v (read_back digits_value (omega (arith, good.2)) i))))
decodes k (Member v t cell member) good =
    (λ i. step.Act (act.Run (record { server = small t.server good.0.server i; client = k; job = job_back t good.0 i }) (small cell good.1 i) (changing v (small member good.2 i))))

-- a name has one number
one_number : (ns : Lines) → AllNames ns → (name : Option (List ℕ)) (j k : ℕ) → Numbered ns j name → Numbered ns k name → j ≡ k
one_number ns a None j k x y = x ∙ sym y
one_number ns a (Some name) j k x y =
    ⊎_elim
    (λ less. absurd (a.apart j k less y.0 (x.1 ∙ sym y.1)))
    (λ le. ⊎_elim (λ more. absurd (a.apart k j more x.0 (y.1 ∙ sym x.1))) (λ ge. omega arith) (order k j))
    (order j k)

one_step : (ns : Lines) → AllNames ns → (t : List ℕ) (s u : Step) → Says ns t s → Says ns t u → s ≡ u
one_step ns a t s u x y =
    let c = x.command in
    let d = y.command in
    let same : written c ≡ written d = sym x.is ∙ y.is in
    let words = same_words c d x.proper y.proper same in
    let k : x.client ≡ y.client = one_number ns a (name_in c) x.client y.client x.listed (subst (Numbered ns y.client) (sym (same_name c d x.proper y.proper same)) y.listed) in
    let o : opens_with c ≡ opens_with d = same_opening (opens_with c) (opens_with d) (head_is words) in
    x.step ∙ sym (decodes x.client c x.proper) ∙ (λ i. decoded (k i) (o i) (tail_is words i)) ∙ decodes y.client d y.proper ∙ sym y.step

one_each : (ns : Lines) → AllNames ns → (ls ks : List Line) → map own ls ≡ map own ks → AllSay ns ls → AllSay ns ks → map step_in ls ≡ map step_in ks
one_each ns a [] [] e x y = refl
one_each ns a [] (k ∷ ks) e x y = absurd (omega (arith, ap length e))
one_each ns a (l ∷ ls) [] e x y = absurd (omega (arith, ap length e))
one_each ns a (l ∷ ls) (k ∷ ks) e x y =
    let s : l.step ≡ k.step = one_step ns a (own l) l.step k.step x.0 (subst (λ (t : List ℕ). Says ns t k.step) (sym (head_is e)) y.0) in
    (λ i. s i ∷ one_each ns a ls ks (tail_is e) x.1 y.1 i)

pub one_reading : OneReading
one_reading text ns ms ls ks x y =
    let f = same_file text ns ms ls ks x y in
    (f.0, f.1, one_each ns x.whole.0.1 ls ks f.1 x.says (subst (λ (m : Lines). AllSay m ks) (sym f.0) y.says))
