-- What an export is good for: its script, read and run on an empty archive, answers as the version
-- does.
use Rattle.std.specs.Prelude.{◌≡◌, ◌<◌, ℕ, List, None}
use Rattle.relations_spec.specs.Sets.{In}
use Rattle.relations_spec.specs.Spans.{forever}
use Rattle.schema_catalog.specs.Places.{NamedColumns}
use Rattle.smo_ops_types.specs.Commands.{PlainBody, PlainCommand}
use Rattle.smo_ops_spec.specs.Past.{Past, tables_of, past_with, beginning}
use Rattle.smo_ops_spec.specs.History.{past_of, IsHistory}
use Rattle.smo_ops_spec.specs.ValidPast.{last_or_nought}
use Rattle.smo_ops_spec.specs.ValidValues.{CommandsHold}
use Rattle.smo_ops_spec.specs.Accepts.{command_fault}
use Rattle.script_parse.specs.Productions.{IsBody}
use Rattle.smo_parse.proofs.PrintedParts.{Printed}
use Rattle.version_export_past_spec.specs.Commands.{a_command}
use Rattle.version_export_past_spec.specs.Blank.{IsCreated}
use Rattle.version_export_past_spec.specs.Showing.{first_stamp, tables_in}
use Rattle.version_export_lines_spec.specs.Lines.{body_text}
use Rattle.version_export_lines_spec.specs.Named.{HasFreeNames}
use Rattle.version_export_lines_spec.specs.Read.{IsReadBack}
use Rattle.version_export.specs.Rebuilding.{Rebuilds}
use Rattle.version_export.specs.Statements.{creation_text}

-- a history whose constants are valid and whose stamps are before the end of time, and a version of
-- it whose names are free
pub record IsExportable (history : List PlainCommand) (version : ℕ) : Type 0 where
  pub is : IsHistory history
  pub holds : CommandsHold history
  pub ends : last_or_nought (past_of history).last < forever
  pub free : (t : NamedColumns) → In t (tables_in (past_of history) version) → HasFreeNames t

-- the body of the EVOLVE that creates tables is accepted at the beginning, makes a past that has
-- just these tables, and prints as the text that is exported, which spells it
pub record Creates (creating : List NamedColumns → PlainBody) (past : Past) (version : ℕ)
    : Type 0 where
  pub accepted : command_fault beginning
      (a_command (first_stamp past) (creating (tables_in past version))) ≡ None
  pub creates : IsCreated (tables_of past version) (first_stamp past)
      (past_with beginning (a_command (first_stamp past) (creating (tables_in past version))))
  pub text : body_text (creating (tables_in past version))
      ≡ creation_text (tables_in past version)
  pub printed : Printed IsBody 0 (creating (tables_in past version))
      (body_text (creating (tables_in past version)))

-- the commands' script is read as them, they are a history, and its past answers alike
pub record IsGood (commands : List PlainCommand) (past : Past) (version : ℕ) : Type 0 where
  pub read : IsReadBack commands
  pub rebuilds : Rebuilds commands past version
