-- The piece that a question of one table begins with.
use Rattle.std.specs.Prelude.{◌≡◌, ℕ, List, [], ◌∷◌, map, true}
use Rattle.std.specs.FinMap.{contains_key}
use Rattle.relations_spec.specs.Sets.{In, Ascends}
use Rattle.prima_base.specs.Order.{bytes_cmp}
use Rattle.prima_base.specs.Columns.{names_of}
use Rattle.schema_catalog.specs.Tables.{Tables}
use Rattle.cond_expr.specs.declared.expr.Whose.TheVariants.{Atom}
use Rattle.cond_expr.specs.Trees.{Tree, column, Test}
use Rattle.cond_expr.specs.Kinds.{is_typed}
use Rattle.smo_ops_spec.specs.Effects.{columns_of}
use Rattle.cond_expr.specs.AtomColumns.{kinds_of_atoms}
use Rattle.plain_answers_spec.specs.Reading.{Read}
use Rattle.piece_ir_spec.specs.Pieces.{PlainPiece}

-- what is asked of a table: the table is there, the condition is well-typed over its columns as
-- those of atom 0, and the names are those of some of its columns, ascending, each once
pub record IsQuestion (tables : Tables) (table : List ℕ) (r : Read) : Type 0 where
  pub there : contains_key tables table ≡ true
  pub cond : is_typed (kinds_of_atoms (columns_of tables table ∷ [])) r.test ≡ true
  pub columns : (n : List ℕ) → In n r.names → In n (names_of (columns_of tables table))
  pub ascending : Ascends bytes_cmp r.names

-- the rows that meet a condition, with some columns
abbrev pub asking : Test → List (List ℕ) → Read
asking cond names = record { test = cond; names = names }

-- a column of the table, under its own name
abbrev pub own_column : List ℕ → List ℕ × Tree
own_column n = (n, column (Atom 0) n)

abbrev pub first_piece : List ℕ → Read → PlainPiece
first_piece table r = record { atoms = table ∷ []; cond = r.test; outs = map own_column r.names }
