-- The commands that rebuild the history as one version shows it, and the queries that tell whether
-- it can.
use Rattle.std.specs.Prelude.{◌≡◌, ℕ, List, [], ◌∷◌, map, None}
use Rattle.relations_spec.specs.Sets.{In}
use Rattle.prima_base.specs.Columns.{Column}
use Rattle.schema_catalog.specs.Places.{NamedColumns}
use Rattle.cond_expr.specs.declared.expr.Whose.TheVariants.{Free}
use Rattle.cond_expr.specs.Trees.{Tree, column, always}
use Rattle.smo_ops_types.specs.Operators.{nop, create_table}
use Rattle.smo_ops_types.specs.Commands.{PlainBody, evolving, PlainCommand}
use Rattle.smo_ops_spec.specs.Past.{Past}
use Rattle.plain_answers_spec.specs.Branches.{PlainBranch, a_branch}
use Rattle.temporal_lang_types.specs.declared.when.When.TheVariants.{Always}
use Rattle.temporal_lang_types.specs.Queries.{PlainQuery, a_query}
use Rattle.temporal_lang_spec.specs.Losing.{first_lost}
use Rattle.version_export_past_spec.specs.Commands.{a_command, row_commands}
use Rattle.version_export_past_spec.specs.Showing.{first_stamp, shown_by, tables_in, later_moments}

-- at each later moment at which a row of the version's tables begins or ends to hold
abbrev pub rows_exported : Past → ℕ → List PlainCommand
rows_exported past version = row_commands (tables_in past version) (shown_by past version)
    (later_moments (first_stamp past) past.states)

-- before them the tables, of which a version has none or some; `creating` is the body of the EVOLVE
-- that creates some
abbrev pub after_creation : (List NamedColumns → PlainBody) → ℕ → List NamedColumns
    → List PlainCommand → List PlainCommand
after_creation creating stamp [] rows = []
after_creation creating stamp (t ∷ tables) rows = a_command stamp (creating (t ∷ tables)) ∷ rows

abbrev pub exported : (List NamedColumns → PlainBody) → Past → ℕ → List PlainCommand
exported creating past version = after_creation creating (first_stamp past)
    (tables_in past version) (rows_exported past version)

-- ---- the query over all columns of a table, in the order of their names, at all moments

abbrev pub free_columns : List Column → List Tree
free_columns columns = map (λ (c : Column). column Free c.0) columns

abbrev pub whole_branch : NamedColumns → PlainBranch
whole_branch t = a_branch (free_columns t.1) ((t.0, t.0) ∷ []) always

abbrev pub whole_query : ℕ → NamedColumns → PlainQuery
whole_query version t = a_query version (whole_branch t ∷ []) Always []

-- no table of the version is lost at any moment, nor a column of one
abbrev pub NoTableLost : Past → ℕ → Type 0
NoTableLost past version = (t : NamedColumns) → In t (tables_in past version)
    → first_lost past (whole_query version t) ≡ None

-- ---- the same query, asked on another version

abbrev pub on_version : ℕ → PlainQuery → PlainQuery
on_version version query = a_query version query.branches query.when query.keep

-- ---- the EVOLVE that creates tables: of one table; of several it is to be one list of operators

abbrev pub creating_one : List NamedColumns → PlainBody
creating_one [] = evolving (nop ∷ []) []
creating_one (t ∷ []) = evolving (create_table t.0 t.1 ∷ []) []
creating_one (t ∷ u ∷ tables) = evolving (nop ∷ []) []
