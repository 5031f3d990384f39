use Rattle.server.proofs.servers.Server.settle.Goals as goal

pub returns : goal.returns
returns c = rw (← c.left.ensures) c.put.ensures
