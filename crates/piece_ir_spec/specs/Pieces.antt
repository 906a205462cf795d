-- Pieces as plain data, and what they mean over a database.
use Rattle.std.specs.Prelude.{ℕ, List, map}
use Rattle.std.specs.List.{flat_map}
use Rattle.std.specs.FinMap.{get}
use Rattle.relations_spec.specs.Sets.{set_of}
use Rattle.prima_base.specs.Order.{row_cmp}
use Rattle.prima_base.specs.Columns.{Column}
use Rattle.schema_catalog.specs.Tables.{Tables}
use Rattle.schema_catalog.specs.Databases.{Database}
use Rattle.cond_expr.specs.Trees.{Tree, Test}
use Rattle.smo_ops_spec.specs.OneRow.{Row, Relation}
use Rattle.smo_ops_spec.specs.Effects.{columns_of, rows_under}
use Rattle.plain_answers_spec.specs.Choosing.{answers_over, Gives}

-- tables, each of which is an atom, a condition, and the outputs by their names. Each reference is
-- to an atom: the place of a table in the list
pub record PlainPiece : Type 0 where
  pub atoms : List (List ℕ)
  pub cond : Test
  pub outs : List (List ℕ × Tree)

abbrev pub out_names : List (List ℕ × Tree) → List (List ℕ)
out_names outs = map (λ (o : List ℕ × Tree). o.0) outs

abbrev pub out_trees : List (List ℕ × Tree) → List Tree
out_trees outs = map (λ (o : List ℕ × Tree). o.1) outs

-- the columns, and the relation, of each atom's table
abbrev pub atom_columns : Tables → List (List ℕ) → List (List Column)
atom_columns tables atoms = map (columns_of tables) atoms

abbrev pub atom_rows : Database → List (List ℕ) → List Relation
atom_rows db atoms = map (λ n. rows_under (get db n)) atoms

-- for each choice of one row per atom that meets the condition, the row of the outputs
abbrev pub piece_answers : Tables → Database → PlainPiece → List Row
piece_answers tables db p = answers_over (atom_columns tables p.atoms) (atom_rows db p.atoms)
    (out_trees p.outs) p.cond

-- the relation of these rows
abbrev pub means : Tables → Database → PlainPiece → Relation
means tables db p = set_of row_cmp (piece_answers tables db p)

-- a list of pieces means the union
abbrev pub all_mean : Tables → Database → List PlainPiece → Relation
all_mean tables db ps = set_of row_cmp (flat_map (piece_answers tables db) ps)

-- a piece gives the row, for a choice of one row per atom
abbrev pub PieceGives : Tables → Database → PlainPiece → Row → Type 0
PieceGives tables db p row = Gives (atom_columns tables p.atoms) (atom_rows db p.atoms)
    (out_trees p.outs) p.cond row
