use Rattle.std.proofs.Common.{◌≡◌, Some, refl, rules}
use Rattle.message.specs.Messages.{msg_of}
use Rattle.broadcast.specs.Bags.{nth}
use Rattle.journal.specs.Verdicts.{judged_of, judged_there}
use Rattle.pronto.specs.Delivering.{verdict}
use Rattle.server.proofs.servers.Server.look_deliver.Goals as goal

pub returns : goal.returns
unfolding verdict
returns g c = λ m.
    let p = c.args.self.now.delivered in
    let l = g.B.Broadcast.log c.args.broadcast.now in
    let here : nth l p ≡ Some (msg_of c.in_ok-message.message.now) = search rules in
    let told : judged_there l p (nth l p) ≡ Some (judged_of c.in_ok-judgement.judgement) = search rules in
    let told_here = rw here at told in
    rw (c.in_ok-look_running.ensures, here) (refl, (refl, (cc)))
