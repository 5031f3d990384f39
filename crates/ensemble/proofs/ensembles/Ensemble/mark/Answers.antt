use Rattle.std.proofs.Common.{rules, ◌≡◌, ◌<◌, length, None, sym, ◌∙◌, ap, arith}
use Rattle.replica.specs.Meanings.{Meaning}
use Rattle.ensemble.specs.Whole.{state}
use Rattle.ensemble.proofs.Lifts.{db_of}
use Rattle.ensemble.proofs.Told.{known_server}
use Rattle.ensemble.proofs.ensembles.Ensemble.mark.Goals as goal

pub returns : goal.returns
returns g c =
    let e = c.args.self.now in
    let i = c.args.server in
    let p = c.in_ok-place.place in
    let place = c.in_ok-place.ensures in
    let eight : length e.servers ≡ 8 = search rules in
    let low : p < length e.servers = omega (arith, place.2) in (
      known_server (state g.B.Broadcast g.K.ReplicaBank g.K.DatabaseBank e) i None place.0,
      c.mark.ensures ∙ sym (ap (λ (m : Meaning). m.mark) (db_of e.count.count e.servers (g.K.ReplicaBank.meanings e.bank) i p place.0 place.1 low)),
    )
