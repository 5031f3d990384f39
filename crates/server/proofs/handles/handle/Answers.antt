use Rattle.std.proofs.Common.{◌≡◌, ℕ, Ok, refl}
use Rattle.replica.specs.Meanings.{Meaning}
use Rattle.message.specs.declared.messages.Message.TheVariants.{Epoch}
use Rattle.message.specs.Messages.{Msg, msg_of}
use Rattle.journal.specs.declared.verdicts.Judgement.{Judgement}
use Rattle.journal.specs.declared.verdicts.Judgement.TheVariants.{Accepted, Stale, Committed, Late, Again}
use Rattle.journal.specs.Judging.{stale, committed, late, again}
use Rattle.journal.specs.Verdicts.{judged_of}
use Rattle.server.specs.declared.servers.Server.{Server}
use Rattle.server.specs.declared.servers.advances.Advance.TheVariants.{Passes}
use Rattle.server.specs.Acting.{Meets}
use Rattle.server.proofs.Handling.{rises, passes}
use Rattle.server.proofs.handles.handle.Goals as goal

pub returns-in-Accepted-default : goal.returns-in-Accepted-default
returns-in-Accepted-default g c =
    let a = c.args in
    rw c.in-Accepted-default.is-0
    (rises g.K.ReplicaBank.size a.number a.place a.server.now (g.K.ReplicaBank.meanings a.bank.now) (msg_of a.message.now) (g.K.ReplicaBank.meanings c.lose.new.self) c.lose.ensures)

pub returns-in_default : goal.returns-in_default
returns-in_default g c =
    let a = c.args in let m = msg_of (Epoch c.in_default.field-0-1) in
    rw (c.in_default.is-0, c.in_default.is-1) (passes g.K.ReplicaBank.size a.number a.place a.server.now (g.K.ReplicaBank.meanings a.bank.now) committed m refl refl)

pub returns-in_default-2 : goal.returns-in_default-2
returns-in_default-2 g c =
    let a = c.args in let m = msg_of (Epoch c.in_default.field-0-1) in
    rw (c.in_default.is-0, c.in_default.is-1)
    (passes g.K.ReplicaBank.size a.number a.place a.server.now (g.K.ReplicaBank.meanings a.bank.now) (again c.in_default.field-0-0) m refl refl)

-- stale or late
unused : (databases number i : ℕ) (v : Server) (ms : ℕ → Meaning) (m : Msg) (j : Judgement) → (j ≡ Accepted → ⊥) → (j ≡ Committed → ⊥) → ((p : ℕ) → j ≡ Again p → ⊥) →
    Meets databases number (judged_of j) m (Ok Passes) i v ms ms
unused databases number i v ms m Accepted a b d = absurd (a refl)
unused databases number i v ms m Committed a b d = absurd (b refl)
unused databases number i v ms m (Again p) a b d = absurd (d p refl)
unused databases number i v ms m Stale a b d = passes databases number i v ms stale m refl refl
unused databases number i v ms m Late a b d = passes databases number i v ms late m refl refl

pub returns-in_default-3 : goal.returns-in_default-3
returns-in_default-3 g c =
    let a = c.args in
    let none = c.in_default in
    unused g.K.ReplicaBank.size a.number a.place a.server.now (g.K.ReplicaBank.meanings a.bank.now) (msg_of a.message.now) a.judgement none.not-Accepted-0 none.not-Committed-0 none.not-Again-0
