use Rattle.sessions.proofs.CursorLaws.{cursor_apart}
use Rattle.sessions.proofs.TransactionLaws.{transaction_apart}
use Rattle.sessions.proofs.laws.sessions_are_apart.Goals as goal

pub returns : goal.returns
returns c = λ needs w q request s. record {
  transaction = transaction_apart needs s w q request;
  cursors = λ name. cursor_apart needs s name w q request;
}
