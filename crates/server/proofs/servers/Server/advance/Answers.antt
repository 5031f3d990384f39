use Rattle.std.proofs.Common.{◌≡◌, rules}
use Rattle.pronto.specs.Servers.{lifted}
use Rattle.server.proofs.servers.Server.advance.Goals as goal

pub returns-in-Closes : goal.returns-in-Closes
returns-in-Closes c = rw c.in-Closes.is c.put.ensures

pub returns-in-Rises : goal.returns-in-Rises
returns-in-Rises c =
    let v = c.args.self.now in
    let bar : c.filter-self.result ≡ lifted v.delivered v.bar = search rules in
    rw (c.in-Rises.is, bar) (search rules)
