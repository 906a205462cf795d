-- Which item's column each reference of a branch is to.
use Rattle.std.specs.Prelude.{ℕ, Bool, List, map}
use Rattle.std.specs.List.{position_or_len}
use Rattle.prima_base.specs.Columns.{Column, names_of}
use Rattle.schema_catalog.specs.Tables.{Tables}
use Rattle.cond_expr.specs.declared.expr.Whose.TheVariants.{Free, Alias, Atom}
use Rattle.cond_expr.specs.Trees.{column, Filling, fill, fill_test}
use Rattle.cond_expr.specs.Kinds.{Kinds}
use Rattle.smo_ops_spec.specs.OneRow.{same}
use Rattle.smo_ops_spec.specs.Effects.{columns_of}
use Rattle.smo_ops_spec.specs.Preconditions.{among}
use Rattle.plain_answers_spec.specs.Branches.{Item, PlainBranch}
use Rattle.plain_answers_spec.specs.Branches.{item_columns}
use Rattle.cond_expr.specs.AtomColumns.{kinds_of_atoms}
use Rattle.temporal_lang_types.specs.Queries.{PlainQuery, a_query}

-- an item as references see it: its alias, and its table's columns
pub record Source : Type 0 where
  pub alias : List ℕ
  pub columns : List Column

abbrev pub source_of : Tables → Item → Source
source_of tables i = record { alias = i.1; columns = columns_of tables i.0 }

abbrev pub sources_of : Tables → List Item → List Source
sources_of tables from = map (source_of tables) from

abbrev pub has_column : List ℕ → Source → Bool
has_column name s = among name (names_of s.columns)

abbrev pub has_alias : List ℕ → Source → Bool
has_alias alias s = same s.alias alias

-- the place of the first item that has the column, and of the item with the alias
abbrev pub place_of_column : List Source → List ℕ → ℕ
place_of_column sources name = position_or_len (has_column name) sources

abbrev pub place_of_alias : List Source → List ℕ → ℕ
place_of_alias sources alias = position_or_len (has_alias alias) sources

-- each reference is made one to an atom, which is the item's place in its branch
abbrev pub to_atoms : List Source → Filling
to_atoms sources Free name = column (Atom (place_of_column sources name)) name
to_atoms sources (Alias alias) name = column (Atom (place_of_alias sources alias)) name
to_atoms sources (Atom i) name = column (Atom i) name

abbrev pub filled_branch : Filling → PlainBranch → PlainBranch
filled_branch by b = record {
  outs = map (fill by) b.outs;
  from = b.from;
  cond =
      fill_test by b.cond;
}

abbrev pub branch_with_atoms : Tables → PlainBranch → PlainBranch
branch_with_atoms tables b = filled_branch (to_atoms (sources_of tables b.from)) b

abbrev pub branches_with_atoms : Tables → List PlainBranch → List PlainBranch
branches_with_atoms tables branches = map (branch_with_atoms tables) branches

abbrev pub with_atoms : Tables → PlainQuery → PlainQuery
with_atoms tables query = a_query query.version (branches_with_atoms tables query.branches)
    query.when query.keep

-- what the references of a branch to the columns of its items are
abbrev pub atom_kinds : Tables → List Item → Kinds
atom_kinds tables from = kinds_of_atoms (item_columns tables from)
