use Rattle.std.proofs.Common.{sym}
use Rattle.replica.proofs.Finishing.{taken_back, undo_serves}
use Rattle.replica.proofs.transacting.transact.Goals as goal

pub returns-in_err-undo : goal.returns-in_err-undo
returns-in_err-undo g c =
    let before = g.D.Replica.meaning c.open.new.self in
    let after = g.D.Replica.meaning c.finish-finished.new.database in
    let served = undo_serves g.D.Database.unit (g.D.Replica.meaning c.args.database.now) c.args.slot before after c.args.statements.now c.args.position
    c.finish-finished.result c.in_ok-open.ensures.2 (sym c.if-is_err.ensures.value) c.finish-finished.ensures in
    let refused = c.in_err-undo.ensures.0 in
    cc

pub returns-in_ok-undo : goal.returns-in_ok-undo
returns-in_ok-undo g c =
    let opening = c.in_ok-open.ensures in
    let before = g.D.Replica.meaning c.open.new.self in
    let after = g.D.Replica.meaning c.finish-finished.new.database in
    taken_back g.D.Database.unit (g.D.Replica.meaning c.args.database.now) c.args.slot before after (g.D.Replica.meaning c.undo.new.self) c.args.statements.now c.args.position
    c.finish-finished.result opening.0 opening.2 (sym c.if-is_err.ensures.value) c.finish-finished.ensures c.in_ok-undo.ensures.2
