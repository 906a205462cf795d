-- The statements of an export as texts: the EVOLVE that creates the tables, then a statement for
-- each command on rows.
use Rattle.std.specs.Prelude.{ℕ, ◌++◌, List, [], ◌∷◌, map, codes, decimal}
use Rattle.schema_catalog.specs.Places.{NamedColumns}
use Rattle.smo_ops_types.specs.Commands.{PlainCommand}
use Rattle.smo_ops_spec.specs.Past.{Past}
use Rattle.smo_parse.specs.Texts.{column_text, part_text}
use Rattle.version_export_past_spec.specs.Showing.{first_stamp, tables_in}
use Rattle.version_export_lines_spec.specs.Lines.{command_text}
use Rattle.version_export.specs.Exported.{rows_exported}

-- its stamp, and its text without the `;`
abbrev pub Statement : Type 0
Statement = ℕ × List ℕ

abbrev pub statement_of : PlainCommand → Statement
statement_of c = (c.stamp, command_text c)

abbrev pub create_text : NamedColumns → List ℕ
create_text t = codes "CREATE TABLE " ++ part_text t.0 (map column_text t.1)

-- each after THEN
abbrev pub then_creates : List NamedColumns → List ℕ
then_creates [] = []
then_creates (t ∷ tables) = codes " THEN " ++ create_text t ++ then_creates tables

-- one alone, or all as a list in brackets
abbrev pub creates_text : List NamedColumns → List ℕ
creates_text [] = []
creates_text (t ∷ []) = create_text t
creates_text (t ∷ u ∷ tables) = codes "(" ++ create_text t ++ then_creates (u ∷ tables) ++ codes ")"

abbrev pub creation_text : List NamedColumns → List ℕ
creation_text tables = codes "EVOLVE " ++ creates_text tables

abbrev pub creation : ℕ → List NamedColumns → Statement
creation stamp tables = (stamp, codes "AT " ++ decimal stamp ++ codes " " ++ creation_text tables)

-- a version without tables has no statement
abbrev pub after_creates : ℕ → List NamedColumns → List Statement → List Statement
after_creates stamp [] rows = []
after_creates stamp (t ∷ tables) rows = creation stamp (t ∷ tables) ∷ rows

abbrev pub statements : Past → ℕ → List Statement
statements past version = after_creates (first_stamp past) (tables_in past version)
    (map statement_of (rows_exported past version))
