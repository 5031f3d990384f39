use Rattle.std.proofs.Common.{◌≡◌, true, length, get_or, set, None, Some, sym, ap, ◌∙◌, rules}
use Rattle.replica.specs.Meanings.{busy}
use Rattle.replica.specs.Calls.{written_into}
use Rattle.in_place.specs.Parts.{means}
use Rattle.in_place.specs.State.{meaning_of, same_unit}
use Rattle.in_place.proofs.Means.{open_is}
use Rattle.in_place.proofs.Moves.{open_holds, write_means, write_held}
use Rattle.in_place.proofs.state.InPlace.write.Goals as goal

pub returns : goal.returns
returns c =
    let d = c.args.self.now in
    let m = meaning_of d in
    let s = c.args.slot in
    let k = c.cell-cell.result in
    let v = c.args.value in
    let same = c.cell-cell.ensures.value in
    let long : length d.slots ≡ 8 = search rules in
    let tall : length d.cells ≡ 64 = search rules in
    let deep : length d.formers ≡ 64 = search rules in
    let held = open_holds (get_or d.slots s None) (sym (open_is d s) ∙ c.requires.opened) in
    ap (λ x. means (set d.cells k v) (set d.formers k (Some (record { slot = s; value = x }))) d.slots d.mark) c.base.ensures
    ∙ write_means d long s held.0 held.1 tall deep k v c.cell-cell.ensures.bound (ap (λ n. busy m s n true) same ∙ c.requires.free)
    ∙ ap (λ n. written_into same_unit m s n v) same

pub invariant_of-self : goal.invariant_of-self
invariant_of-self c =
    let d = c.args.self.now in
    let s = c.args.slot in
    let long : length d.slots ≡ 8 = search rules in
    let deep : length d.formers ≡ 64 = search rules in
    let held = open_holds (get_or d.slots s None) (sym (open_is d s) ∙ c.requires.opened) in
    record { held = write_held d long s held.0 held.1 deep c.cell-cell.result c.base.result c.cell-cell.ensures.bound }
