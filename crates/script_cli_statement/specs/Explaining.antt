-- What EXPLAIN tells of a query, by what its pieces are.
use Rattle.std.specs.Prelude.{◌≡◌, ℕ, List}
use Rattle.smo_ops_spec.specs.Past.{tables_of}
use Rattle.piece_ir.specs.ExplainedPieces.{PlainExplained}
use Rattle.temporal_lang_spec.specs.Atoms.{with_atoms}
use Rattle.temporal_lang_types.specs.Queries.{PlainQuery}
use Rattle.script_cli_vault.specs.ArchiveOnDisk.{ArePieces}
use Rattle.answer_text.specs.Texts.{explain_text}
use Rattle.script_cli_statement.specs.Given.{Given}
use Rattle.script_cli_statement.specs.Replies.{Recorded, reply}

-- the reply to a text has the lines of the query's pieces: of those into which it unfolds at each
-- version in force in its slice, just those that are not dead, branch by branch, item by item, and
-- version by version
pub record TellsPieces (limit : Given) (now : Recorded) (text : List ℕ) (query : PlainQuery) :
    Type 0 where
  pub pieces : List PlainExplained
  pub are : ArePieces limit.book now.past.versions
      (with_atoms (tables_of now.past query.version) query) pieces
  pub told : (reply limit now text).text ≡ explain_text pieces
