-- Two meanings are one where their parts are.
use Rattle.std.proofs.Common.{◌≡◌, ℕ, Bool, Option, ap, ◌∙◌}
use mathlib.Core.Path.{fun_ext}
use Rattle.replica.specs.Meanings.{Meaning, Slot}

pub same_meaning : (m n : Meaning) → ((c : ℕ) → m.cells c ≡ n.cells c) → m.mark ≡ n.mark → ((s : ℕ) → m.slots s ≡ n.slots s) → m ≡ n
same_meaning m n cells mark slots =
    let a : (ℕ → ℕ) → Meaning = λ f. record { cells = f; mark = m.mark; slots = m.slots } in
    let b : ℕ → Meaning = λ k. record { cells = n.cells; mark = k; slots = m.slots } in
    let d : (ℕ → Option Slot) → Meaning = λ s. record { cells = n.cells; mark = n.mark; slots = s } in
    ap a (fun_ext cells) ∙ ap b mark ∙ ap d (fun_ext slots)

pub same_slot : (k l : Slot) → ((u : ℕ) → k.reads u ≡ l.reads u) → ((u : ℕ) → k.writes u ≡ l.writes u) → ((c : ℕ) → k.own c ≡ l.own c) → k ≡ l
same_slot k l reads writes own =
    let a : (ℕ → Bool) → Slot = λ f. record { reads = f; writes = k.writes; own = k.own } in
    let b : (ℕ → Bool) → Slot = λ f. record { reads = l.reads; writes = f; own = k.own } in
    let d : (ℕ → Option ℕ) → Slot = λ f. record { reads = l.reads; writes = l.writes; own = f } in
    ap a (fun_ext reads) ∙ ap b (fun_ext writes) ∙ ap d (fun_ext own)
