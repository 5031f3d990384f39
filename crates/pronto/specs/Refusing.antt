-- Which row of the table turns an act down at a server: for each act its conditions in the table's order; the first that fits answers.
use Rattle.std.specs.Prelude.{ℕ, zero, suc, Bool, false, cond, not, ◌&&◌, List, [], ◌∷◌, length, is_some, Some, None, Option, ◌==◌, nat_le, nat_lt}
use Rattle.statement.specs.declared.operation.Operation.{Operation}
use Rattle.statement.specs.declared.checked.Statement.{Statement}
use Rattle.statement.specs.Making.{missing, checked}
use Rattle.replica.specs.declared.faults.Fault.{Fault}
use Rattle.replica.specs.declared.faults.Fault.TheVariants.{NoDatabase}
use Rattle.replica.specs.Meanings.{any_below}
use Rattle.replica.specs.Calls.{run_answer}
use Rattle.replica.specs.Refusals.{open_refusal, run_refusal, undo_refusal}
use Rattle.journal.specs.Judging.{primary}
use Rattle.pronto.specs.Numbers.{passed_up}
use Rattle.pronto.specs.Servers.{Work, Site, worked, sent_off, ended}
use Rattle.pronto.specs.declared.faults.ServerFault.{ServerFault}
use Rattle.pronto.specs.declared.faults.ServerFault.TheVariants as fault

-- The first condition that holds answers.
abbrev pub first : List (Bool × ServerFault) → Option ServerFault
first [] = None
first (x ∷ l) = cond x.0 (Some x.1) (first l)

-- What the database refuses, after what the table refuses.
abbrev pub and_then : Option ServerFault → Option ServerFault → Option ServerFault
and_then (Some e) later = Some e
and_then None later = later

abbrev pub up : Option Fault → Option ServerFault
up None = None
up (Some f) = Some (passed_up f)

-- A place that has no database refuses.
unfoldable pub at_place : ℕ → ℕ → Option Fault → Option Fault
at_place databases place refusal = cond (nat_lt place databases) refusal (Some NoDatabase)

-- The transaction of this client and job, with its slot: the one in the highest slot below n.
abbrev pub names : ℕ → ℕ → Work → Bool
names c k w = w.client == c && w.job == k

abbrev pub or_below : ℕ → ℕ → Option Work → ℕ → Option (ℕ × Work) → Option (ℕ × Work)
or_below c k None p below = below
or_below c k (Some w) p below = cond (names c k w) (Some (p, w)) below

unfoldable pub seek : (ℕ → Option Work) → ℕ → ℕ → ℕ → Option (ℕ × Work)
seek rows c k zero = None
seek rows c k (suc p) = or_below c k (rows p) p (seek rows c k p)

abbrev pub find : Site → ℕ → ℕ → Option (ℕ × Work)
find v c k = seek v.rows c k 8

abbrev pub if_found : {X : Type 0} → Option (ℕ × Work) → X → (ℕ → Work → X) → X
if_found None x f = x
if_found (Some y) x f = f y.0 y.1

abbrev pub is_committing : Option (ℕ × Work) → Bool
is_committing found = if_found found false (λ p w. w.committing)

-- Row p has no transaction.
abbrev pub is_free : Site → ℕ → Bool
is_free v p = not (is_some (v.rows p))

-- begin, at server i of n
abbrev pub begin_table : ℕ → ℕ → Site → ℕ → ℕ → List (Bool × ServerFault)
begin_table n i v c k =
    (not v.running, fault.Stopped)
    ∷ (nat_lt 15 c, fault.NoClient)
    ∷ (not (i == primary n v.epoch), fault.NotPrimary)
    ∷ (is_some v.bar, fault.Barred)
    ∷ (is_some (find v c k), fault.AlreadyOpen)
    ∷ (not (any_below 8 (is_free v)), fault.Crowded)
    ∷ []

-- The refusal of a begin that takes slot p, at the server of this place in a bank of so many databases.
unfoldable pub begin_why : ℕ → ℕ → ℕ → ℕ → Site → ℕ → ℕ → ℕ → Option ServerFault
begin_why databases place n i v c k p = and_then (first (begin_table n i v c k)) (up (at_place databases place (open_refusal v.db p)))

-- run
abbrev pub run_table : Site → ℕ → ℕ → ℕ → Operation → List (Bool × ServerFault)
run_table v c k cell o =
    (not v.running, fault.Stopped)
    ∷ (nat_lt 15 c, fault.NoClient)
    ∷ (is_some (missing cell o), fault.NoCell)
    ∷ (not (is_some (find v c k)), fault.NoTransaction)
    ∷ (is_committing (find v c k), fault.Committing)
    ∷ (if_found (find v c k) false (λ p w. nat_le 6 (length w.stmts)), fault.Long)
    ∷ []

abbrev pub if_statement : {X : Type 0} → Option Statement → X → (Statement → X) → X
if_statement None x f = x
if_statement (Some st) x f = f st

unfoldable pub run_why : (ℕ → ℕ) → Site → ℕ → ℕ → ℕ → Operation → Option ServerFault
run_why unit v c k cell o =
    and_then (first (run_table v c k cell o)) (if_statement (checked cell o) None (λ st. if_found (find v c k) None (λ p w. up (run_refusal unit v.db p st))))

unfoldable pub run_result : Site → ℕ → ℕ → ℕ → Operation → ℕ
run_result v c k cell o = if_statement (checked cell o) 0 (λ st. if_found (find v c k) 0 (λ p w. run_answer v.db p st))

unfoldable pub run_after : (ℕ → ℕ) → Site → ℕ → ℕ → ℕ → Operation → Site
run_after unit v c k cell o = if_statement (checked cell o) v (λ st. if_found (find v c k) v (λ p w. worked unit v p w st))

-- commit and abort
abbrev pub open_table : Site → ℕ → ℕ → List (Bool × ServerFault)
open_table v c k =
    (not v.running, fault.Stopped)
    ∷ (nat_lt 15 c, fault.NoClient)
    ∷ (not (is_some (find v c k)), fault.NoTransaction)
    ∷ (is_committing (find v c k), fault.Committing)
    ∷ []

unfoldable pub commit_after : Site → ℕ → ℕ → Site
commit_after v c k = if_found (find v c k) v (λ p w. sent_off v p w)

unfoldable pub abort_why : Site → ℕ → ℕ → Option ServerFault
abort_why v c k = and_then (first (open_table v c k)) (if_found (find v c k) None (λ p w. up (undo_refusal v.db p)))

unfoldable pub abort_after : Site → ℕ → ℕ → Site
abort_after v c k = if_found (find v c k) v (λ p w. ended v p)

-- suspect, stop and start
abbrev pub running_table : Site → List (Bool × ServerFault)
running_table v = (not v.running, fault.Stopped) ∷ []

abbrev pub start_table : Site → List (Bool × ServerFault)
start_table v = (v.running, fault.Running) ∷ []
