use Rattle.std.proofs.Common.{rules, ◌≡◌, ◌<◌, length, sym, ap, arith}
use Rattle.replica.specs.Meanings.{Meaning}
use Rattle.ensemble.specs.Whole.{state}
use Rattle.ensemble.proofs.Lifts.{db_of}
use Rattle.ensemble.proofs.Told.{told_cell}
use Rattle.ensemble.proofs.ensembles.Ensemble.cell.Goals as goal

pub returns : goal.returns
returns g c =
    let e = c.args.self.now in
    let i = c.args.server in
    let k = c.args.cell in
    let p = c.in_ok-place.place in
    let place = c.in_ok-place.ensures in
    let eight : length e.servers ≡ 8 = search rules in
    let low : p < length e.servers = omega (arith, place.2) in
    rw (c.ok_or.ensures.value, c.ok.ensures.value)
    (told_cell (state g.B.Broadcast g.K.ReplicaBank g.K.DatabaseBank e) i k ((g.K.ReplicaBank.meanings e.bank p).cells k) c.cell.result place.0 c.cell.ensures
    (sym (ap (λ (m : Meaning). m.cells k) (db_of e.count.count e.servers (g.K.ReplicaBank.meanings e.bank) i p place.0 place.1 low))))
