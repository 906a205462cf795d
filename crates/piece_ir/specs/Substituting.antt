-- An expression put for a column of an atom, and whether a piece names a column.
use Rattle.std.specs.Prelude.{◌≡◌, ℕ, ◌==◌, ◌&&◌, List, map, Bool, if◌then◌else◌}
use Rattle.std.specs.List.{list_any, filter}
use Rattle.relations_spec.specs.Sets.{set_of}
use Rattle.relations_spec.specs.Choices.{choices}
use Rattle.prima_base.specs.Columns.{Column}
use Rattle.prima_base.specs.Order.{row_cmp}
use Rattle.schema_catalog.specs.Tables.{Tables}
use Rattle.schema_catalog.specs.Databases.{Database}
use Rattle.cond_expr.specs.declared.expr.ColRef.{ColRef}
use Rattle.prima_base.specs.declared.value.Value.{Value}
use Rattle.cond_expr.specs.declared.expr.Whose.{Whose}
use Rattle.cond_expr.specs.declared.expr.Whose.TheVariants.{Atom}
use Rattle.cond_expr.specs.Trees.{Tree, column, Filling, for_atoms, fill, fill_test}
use Rattle.cond_expr.specs.Values.{Cells, over, value, truth}
use Rattle.smo_ops_spec.specs.OneRow.{same, Row, Relation}
use Rattle.plain_answers_spec.specs.Naming.{is_to, all_references}
use Rattle.plain_answers_spec.specs.Choosing.{chosen_cell}
use Rattle.piece_ir_spec.specs.Pieces.{PlainPiece, out_trees, atom_columns, atom_rows}
use Rattle.piece_ir_spec.specs.Unfolding.{filled_outs}

-- each reference is to this atom
abbrev pub to_atom : ℕ → Filling
to_atom i w n = column (Atom i) n

-- the expression, said of the atom, for its column; each other column of an atom for itself
abbrev pub put_column : ℕ → List ℕ → Tree → Filling
put_column i c e = for_atoms (λ j n. if (j == i) && same n c then fill (to_atom i) e
    else column (Atom j) n)

abbrev pub substituted : PlainPiece → ℕ → List ℕ → Tree → PlainPiece
substituted p i c e = record {
  atoms = p.atoms;
  cond = fill_test (put_column i c e) p.cond;
  outs =
      filled_outs (put_column i c e) p.outs;
}

-- the reference is to this column of the atom
abbrev pub is_column : ℕ → List ℕ → ColRef → Bool
is_column i c r = is_to i r && same r.name c

abbrev pub names_column : ℕ → List ℕ → List ColRef → Bool
names_column i c references = list_any (is_column i c) references

abbrev pub piece_references : PlainPiece → List ColRef
piece_references p = all_references (out_trees p.outs) p.cond

-- it is to atom 0: the one row that an expression is over
abbrev pub IsOwn : Whose → List ℕ → Type 0
IsOwn w n = w ≡ Atom 0

-- the cells of atoms, where a column of one has the value of an expression over the atom's row
abbrev pub with_value : (ℕ → List ℕ → Value) → ℕ → List ℕ → Tree → ℕ → List ℕ → Value
with_value at i c e j n = if (j == i) && same n c then value (over (λ k m. at i m)) e else at j n

-- ---- over whole pieces

-- the cells of a choice of one row per atom, where the column of an atom has that value
abbrev pub cells_with_value : List (List Column) → List Row → ℕ → List ℕ → Tree → Cells
cells_with_value columns choice i c e = over (with_value (chosen_cell columns choice) i c e)

-- what the piece answers where the column of an atom has, in each row of it, the value of an
-- expression over the row: for each choice of one row per atom that meets the condition, the
-- outputs
abbrev pub answers_with_value : Tables → Database → PlainPiece → ℕ → List ℕ → Tree → List Row
answers_with_value tables db p i c e =
    map (λ choice. map (value (cells_with_value (atom_columns tables p.atoms) choice i c e))
    (out_trees p.outs))
    (filter (λ choice. truth (cells_with_value (atom_columns tables p.atoms) choice i c e) p.cond)
    (choices (atom_rows db p.atoms)))

-- the relation of these rows
abbrev pub means_with_value : Tables → Database → PlainPiece → ℕ → List ℕ → Tree → Relation
means_with_value tables db p i c e = set_of row_cmp (answers_with_value tables db p i c e)
