-- What a message says.
use Rattle.std.specs.Prelude.{ℕ, List}
use Rattle.statement.specs.declared.checked.Statement.{Statement}
use Rattle.message.specs.Noted.{statements_of, results_of}
use Rattle.message.specs.declared.messages.Transaction.{Transaction}
use Rattle.message.specs.declared.messages.Message.{Message}
use Rattle.message.specs.declared.messages.Message.TheVariants as message

-- A transaction: who sent it in which epoch, whose job it is, and its statements with the result of each.
pub record Tx : Type 0 where
  pub sender : ℕ
  pub epoch : ℕ
  pub client : ℕ
  pub job : ℕ
  pub stmts : List Statement
  pub results : List ℕ

pub data Msg : Type 0 where
  epoch_change : (sender epoch : ℕ) → Msg
  transaction : Tx → Msg

abbrev pub tx_of : Transaction → Tx
tx_of t = record { sender = t.sender; epoch = t.epoch; client = t.client; job = t.job; stmts = statements_of t.notes; results = results_of t.notes }

abbrev pub msg_of : Message → Msg
msg_of (message.Epoch c) = epoch_change c.sender c.epoch
msg_of (message.Transaction t) = transaction (tx_of t)

-- The server that sent a message.
abbrev pub msg_sender : Msg → ℕ
msg_sender (epoch_change s e) = s
msg_sender (transaction t) = t.sender

-- The epoch that a message carries.
abbrev pub msg_epoch : Msg → ℕ
msg_epoch (epoch_change s e) = e
msg_epoch (transaction t) = t.epoch
