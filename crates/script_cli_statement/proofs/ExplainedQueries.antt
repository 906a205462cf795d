-- The lines that EXPLAIN puts are those of the pieces that are not dead.
use Rattle.std.proofs.Common.{◌≡◌, List, ap, subst, ◌∙◌}
use Rattle.std.specs.Prelude.{ℕ, None}
use Rattle.smo_ops_spec.specs.Checks.{Fault}
use Rattle.piece_ir_spec.specs.Rules.{IsValidBook}
use Rattle.temporal_lang_spec.specs.Accepted.{fault_of_query}
use Rattle.temporal_lang_types.specs.Queries.{PlainQuery}
use Rattle.script_parse.specs.Statements.{explain}
use Rattle.script_parse.specs.Reading.{Whole, reading}
use Rattle.script_cli_vault.specs.ArchiveOnDisk.{ValidInQuery}
use Rattle.script_cli_vault.proofs.ArchiveOnDisk.{are_pieces}
use Rattle.script_cli_vault.specs.ArchiveOnDisk.{pieces_told}
use Rattle.answer_text.specs.Texts.{explain_text}
use Rattle.script_cli_statement.specs.Explaining.{TellsPieces}
use Rattle.script_cli_statement.specs.Given.{Given}
use Rattle.script_cli_statement.specs.Replies.{Recorded, refused_or, answered}
use Rattle.script_cli_statement.specs.Replies.{reading_reply, reply}
use Rattle.script_cli_statement.specs.Written.{HasWritten}
use Rattle.script_cli_statement.proofs.WrittenStatements.{has_written}
use Rattle.script_cli_statement.proofs.ReplyPasts.{IsOfScript}

reply_told : (limit : Given) (now : Recorded) (text : List ℕ) (query : PlainQuery)
    → reading text ≡ Whole (explain query) → fault_of_query now.past query ≡ None
    → (reply limit now text).text ≡ explain_text (pieces_told limit.book now.past query)
unfolding reply
reply_told limit now text query read accepted =
    ap (λ r. (reading_reply limit r now).text) read
    ∙ ap (λ (f : Fault). (refused_or f now (answered
    (explain_text (pieces_told limit.book now.past query)) now)).text) accepted

pub tells_pieces : (limit : Given) → IsValidBook limit.book → (now : Recorded)
    → IsOfScript now.past → (text : List ℕ) (query : PlainQuery)
    → reading text ≡ Whole (explain query) → fault_of_query now.past query ≡ None
    → TellsPieces limit now text query
tells_pieces limit valid now past text query read accepted =
    let constants : ValidInQuery query = subst HasWritten read (has_written text) in
    record {
      pieces = pieces_told limit.book now.past query;
      are = are_pieces limit.book valid now.past past.made past.constants query accepted constants;
      told = reply_told limit now text query read accepted;
    }
