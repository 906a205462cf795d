-- Branches of queries as plain data, and the plain answer over one database. Each reference is to
-- an atom: the place of an item in its branch.
use Rattle.std.specs.Prelude.{ℕ, List, map}
use Rattle.std.specs.List.{flat_map}
use Rattle.std.specs.FinMap.{get}
use Rattle.relations_spec.specs.Sets.{set_of}
use Rattle.prima_base.specs.Order.{row_cmp}
use Rattle.prima_base.specs.Columns.{Column}
use Rattle.schema_catalog.specs.Tables.{Tables}
use Rattle.schema_catalog.specs.Databases.{Database}
use Rattle.cond_expr.specs.Trees.{Tree, Test}
use Rattle.smo_ops_spec.specs.OneRow.{Row, Relation}
use Rattle.smo_ops_spec.specs.Effects.{columns_of, rows_under}
use Rattle.plain_answers_spec.specs.Choosing.{answers_over, Gives}

-- an item of a FROM: its table, and its alias
abbrev pub Item : Type 0
Item = List ℕ × List ℕ

pub record PlainBranch : Type 0 where
  pub outs : List Tree
  pub from : List Item
  pub cond : Test

abbrev pub a_branch : List Tree → List Item → Test → PlainBranch
a_branch outs from cond = record { outs = outs; from = from; cond = cond }

-- the columns, and the relation, of each item's table
abbrev pub item_columns : Tables → List Item → List (List Column)
item_columns tables from = map (λ (i : Item). columns_of tables i.0) from

abbrev pub item_rows : Database → List Item → List Relation
item_rows db from = map (λ (i : Item). rows_under (get db i.0)) from

-- a branch answers, for each choice of one row per table of its FROM that meets its condition, the
-- values of its outputs
abbrev pub branch_answers : Tables → Database → PlainBranch → List Row
branch_answers tables db b = answers_over (item_columns tables b.from) (item_rows db b.from) b.outs
    b.cond

-- the relation of all branches' answers
abbrev pub plain : Tables → List PlainBranch → Database → Relation
plain tables branches db = set_of row_cmp (flat_map (branch_answers tables db) branches)

-- a branch gives the row, for a choice of one row per item
abbrev pub BranchGives : Tables → Database → PlainBranch → Row → Type 0
BranchGives tables db b row = Gives (item_columns tables b.from) (item_rows db b.from) b.outs b.cond
    row
