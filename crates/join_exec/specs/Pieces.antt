-- Pieces over the stored tables of a version: what is stored of their atoms, what they mean over
-- it, and what is read for it.
use Rattle.std.specs.Prelude.{ℕ, ◌+◌, List, [], ◌∷◌, map, Option, Some, None}
use Rattle.relations_spec.specs.Sets.{set_of}
use Rattle.prima_base.specs.Order.{row_cmp}
use Rattle.prima_base.specs.Columns.{Column}
use Rattle.history_store.specs.Store.{Store}
use Rattle.version_groups.specs.StoredTables.{rows_stored}
use Rattle.version_groups.specs.Groups.{Kept, table_in}
use Rattle.cond_expr.specs.declared.expr.ColRef.{ColRef}
use Rattle.smo_ops_spec.specs.OneRow.{Relation}
use Rattle.plain_answers_spec.specs.Choosing.{answers_over}
use Rattle.plain_answers_spec.specs.Naming.{all_references, names_at}
use Rattle.piece_ir_spec.specs.Pieces.{PlainPiece, out_trees}
use Rattle.join_exec.specs.Reading.{reads}

-- the columns of a stored table
abbrev pub columns_stored : Option Store → List Column
columns_stored None = []
columns_stored (Some s) = s.columns

-- the columns of each table of version k, and its relation at the moment, as they are stored
abbrev pub stored_columns : Kept → ℕ → List (List ℕ) → List (List Column)
stored_columns kept k tables = map (λ n. columns_stored (table_in kept k n)) tables

abbrev pub stored_rows : Kept → ℕ → List (List ℕ) → ℕ → List Relation
stored_rows kept k tables m = map (λ n. rows_stored m (table_in kept k n)) tables

-- what a piece means over what is stored of version k at the moment
abbrev pub stored_meaning : Kept → ℕ → PlainPiece → ℕ → Relation
stored_meaning kept k p m = set_of row_cmp (answers_over (stored_columns kept k p.atoms)
    (stored_rows kept k p.atoms m) (out_trees p.outs) p.cond)

-- how many keys, and entries of the columns of these names, a stored table has
abbrev pub reads_stored : Option Store → List (List ℕ) → ℕ
reads_stored None names = 0
reads_stored (Some s) names = reads s names

-- of each of the atoms, the first of which has this number, the keys and the entries of each column
-- that is named of it
abbrev pub atoms_read : Kept → ℕ → List ColRef → ℕ → List (List ℕ) → ℕ
atoms_read kept k references i [] = 0
atoms_read kept k references i (n ∷ tables) =
    reads_stored (table_in kept k n) (names_at i references) + atoms_read kept k references (i + 1)
    tables

-- how many are read for a piece over version k
abbrev pub piece_reads : Kept → ℕ → PlainPiece → ℕ
piece_reads kept k p = atoms_read kept k (all_references (out_trees p.outs) p.cond) 0 p.atoms
