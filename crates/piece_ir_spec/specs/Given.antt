-- What it is that made tables are given by views.
use Rattle.std.specs.Prelude.{◌≡◌, ℕ, List, [], ◌∷◌, true, Some, ⊤}
use Rattle.std.specs.List.{list_all}
use Rattle.relations_spec.specs.Sets.{In}
use Rattle.relations_spec.specs.Choices.{Chosen}
use Rattle.prima_base.specs.declared.value.ColType.{ColType}
use Rattle.prima_base.specs.Columns.{Column, names_of}
use Rattle.schema_catalog.specs.Tables.{Tables}
use Rattle.schema_catalog.specs.Databases.{cell, Database, IsDatabase}
use Rattle.cond_expr.specs.Trees.{Test}
use Rattle.cond_expr.specs.Values.{value, truth}
use Rattle.cond_expr.specs.Kinds.{kind_of, is_typed}
use Rattle.smo_ops_types.specs.Operators.{Operator}
use Rattle.smo_ops_spec.specs.OneRow.{Row, Relation}
use Rattle.smo_ops_spec.specs.Effects.{rows_of}
use Rattle.smo_ops_spec.specs.Preconditions.{type_in}
use Rattle.smo_ops_spec.specs.OperatorTable.{Made, line}
use Rattle.smo_ops_spec.specs.Touching.{made_of}
use Rattle.plain_answers_spec.specs.Choosing.{chosen_cells}
use Rattle.piece_ir_spec.specs.Pieces.{atom_columns, atom_rows}
use Rattle.piece_ir_spec.specs.Typed.{AreThere, atom_kinds}
use Rattle.piece_ir_spec.specs.Views.{PlainView, out_of, Views}
use Rattle.piece_ir_spec.specs.Constants.{ValidInOperator, ValidInView}

-- a choice of one row per atom of the view meets all its parts
pub record Picks (tables : Tables) (db : Database) (v : PlainView) (choice : List Row) :
    Type 0 where
  pub chosen : Chosen choice (atom_rows db v.atoms)
  pub met : list_all (truth (chosen_cells (atom_columns tables v.atoms) choice)) v.parts ≡ true

-- the row of these columns has in each of them what the view has of the choice
pub record HasOutputs (tables : Tables) (columns : List Column) (v : PlainView) (choice : List Row)
    (row : Row) : Type 0 where
  pub is : (n : List ℕ) → In n (names_of columns)
      → cell columns row n ≡ value (chosen_cells (atom_columns tables v.atoms) choice)
      (out_of v.outs n)

-- a relation of these columns has just the rows that the views give: each row is given by a choice
-- of one of them, and each of their choices gives a row
pub record AreGiven (tables : Tables) (db : Database) (columns : List Column) (rows : Relation)
    (views : List PlainView) : Type 0 where
  pub there : (row : Row) → In row rows
      → (v : PlainView) × (choice : List Row) × In v views × Picks tables db v choice
      × HasOutputs tables columns v choice row
  pub back : (v : PlainView) → In v views → (choice : List Row) → Picks tables db v choice
      → (row : Row) × In row rows × HasOutputs tables columns v choice row

-- a view over the tables, of a table of these columns: each atom is a table, each part has a type,
-- and each column has its own
pub record IsTypedView (tables : Tables) (columns : List Column) (v : PlainView) : Type 0 where
  pub there : AreThere tables v.atoms
  pub parts : (c : Test) → In c v.parts → is_typed (atom_kinds tables v.atoms) c ≡ true
  pub outs : (n : List ℕ) (k : ColType) → type_in columns n ≡ Some k
      → kind_of (atom_kinds tables v.atoms) (out_of v.outs n) ≡ Some k

-- one made table and its views: for each database of the tables before; each atom is one of the
-- operator's inputs, and their constants are valid where the operator's are
pub record IsGivenBy (tables : Tables) (op : Operator) (m : Made) (named : List ℕ
    × List PlainView) : Type 0 where
  pub name : named.0 ≡ m.name
  pub rows : (db : Database) → IsDatabase tables db
      → AreGiven tables db m.columns (rows_of (m.entry db)) named.1
  pub typed : (v : PlainView) → In v named.1 → IsTypedView tables m.columns v
  pub inputs : (v : PlainView) → In v named.1 → (n : List ℕ) → In n v.atoms → In n (made_of op)
  pub constants : ValidInOperator op → (v : PlainView) → In v named.1 → ValidInView v

-- each made table, and its views
abbrev pub EachGivenBy : Tables → Operator → List Made → Views → Type 0
EachGivenBy tables op [] [] = ⊤
EachGivenBy tables op [] (named ∷ views) = ⊥
EachGivenBy tables op (m ∷ made) [] = ⊥
EachGivenBy tables op (m ∷ made) (named ∷ views) = IsGivenBy tables op m named
    × EachGivenBy tables op made views

-- the tables that the operator makes are given by the views
abbrev pub AreViews : Tables → Operator → Views → Type 0
AreViews tables op views = EachGivenBy tables op (line tables op).made views
