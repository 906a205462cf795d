-- Atoms, as they are at a moment.
use Rattle.std.specs.Prelude.{◌≡◌, ℕ, ◌+◌, List, [], ◌∷◌, map, ⊤}
use Rattle.std.specs.List.{flat_map}
use Rattle.prima_base.specs.declared.value.Value.{Value}
use Rattle.prima_base.specs.Columns.{Column}
use Rattle.prima_base.specs.Timed.{rows_at}
use Rattle.cond_expr.specs.declared.expr.Column.{Column as AtomColumn}
use Rattle.cond_expr.specs.AtomColumns.{columns_at}
use Rattle.join_exec_spec.specs.BorrowedOutputs.{BorrowedValues, RowsBorrow}
use Rattle.join_exec_spec.specs.Blocks.{Block}
use Rattle.join_exec_engine.specs.declared.atom.Atom.{Atom}

-- the blocks of atoms at a moment
abbrev pub block_of : ℕ → Atom → Block
block_of m a = record {
  number = a.number;
  columns = a.columns.items;
  rows =
      rows_at a.rows.items m;
}

abbrev pub blocks_of : ℕ → List Atom → List Block
blocks_of m atoms = map (block_of m) atoms

-- the relation of each atom at a moment
abbrev pub atom_rows : List Atom → ℕ → List (List (List Value))
atom_rows atoms m = map (λ (a : Atom). rows_at a.rows.items m) atoms

-- no two atoms have one number
abbrev pub IsNumbered : ℕ → List Atom → Type 0
IsNumbered k [] = ⊤
IsNumbered k (a ∷ atoms) = (a.number ≡ k → ⊥) × IsNumbered k atoms

abbrev pub AreNumbered : List Atom → Type 0
AreNumbered [] = ⊤
AreNumbered (a ∷ atoms) = IsNumbered a.number atoms × AreNumbered atoms

-- the columns of atoms, one atom's after the other's
abbrev pub columns_of_atoms : List Atom → List AtomColumn
columns_of_atoms atoms = flat_map (λ (a : Atom). a.columns.items) atoms

-- there is an atom for each list of columns, which has these, as those of its place
abbrev pub HaveAtoms : ℕ → List (List Column) → List Atom → Type 0
HaveAtoms k [] [] = ⊤
HaveAtoms k [] (a ∷ atoms) = ⊥
HaveAtoms k (cs ∷ columns) [] = ⊥
HaveAtoms k (cs ∷ columns) (a ∷ atoms) = (a.columns.items ≡ columns_at k cs)
    × HaveAtoms (k + 1) columns atoms

-- the rows of each atom have these values of its columns borrowed
abbrev pub AtomsBorrow : BorrowedValues → List Atom → Type 0
AtomsBorrow which [] = ⊤
AtomsBorrow which (a ∷ atoms) = RowsBorrow which a.columns.items a.rows.items
    × AtomsBorrow which atoms
