-- A server of the code, with what its database means, as an abstract server.
use Rattle.std.specs.Prelude.{ℕ, List, Some, None, Option, slice_index_or}
use Rattle.replica.specs.Meanings.{Meaning}
use Rattle.message.specs.Noted.{statements_of, results_of}
use Rattle.pronto.specs.Servers.{Work, Site, committing_now, with_row, with_db, past, risen}
use Rattle.server.specs.declared.states.Outcome.{Outcome}
use Rattle.server.specs.declared.states.Outcome.TheVariants.{Stays, Commits, Ends}
use Rattle.server.specs.declared.rows.Row.{Row}
use Rattle.server.specs.declared.servers.Server.{Server}
use Rattle.server.specs.declared.servers.advances.Advance.{Advance}
use Rattle.server.specs.declared.servers.advances.Advance.TheVariants.{Passes, Closes, Rises}
use Rattle.server.specs.Outcomes.{is_committing}

-- An open transaction.
abbrev pub work_of : Row → Work
work_of r = record { client = r.client; job = r.job; stmts = statements_of r.notes; results = results_of r.notes; committing = is_committing r.state }

-- A row: an open transaction, or none.
abbrev pub seen_row : Option Row → Option Work
seen_row None = None
seen_row (Some r) = Some (work_of r)

-- The rows by slot; past the last there is no transaction.
abbrev pub rows_of : List (Option Row) → ℕ → Option Work
rows_of xs p = seen_row (slice_index_or xs p None)

-- The server, with this as the meaning of its database.
abbrev pub shown : Server → Meaning → Site
shown v m = record { running = v.running; epoch = v.epoch; delivered = v.delivered; bar = v.bar; rows = rows_of v.rows; db = m }

-- What stands in a transaction's row once it is known what becomes of it.
abbrev pub row_after : Outcome → Row → Option Work
row_after Stays r = Some (work_of r)
row_after Commits r = Some (committing_now (work_of r))
row_after Ends r = None

-- One message further, where the database already has what the message leaves there.
abbrev pub advanced : Advance → Site → Site
advanced Passes v = past v
advanced (Closes s) v = past (with_row v s.index None)
advanced Rises v = with_db (risen v) v.db
