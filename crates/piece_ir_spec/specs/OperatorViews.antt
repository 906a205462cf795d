-- The views of the tables that each operator makes.
use Rattle.std.specs.Prelude.{ℕ, List, [], ◌∷◌, ◌++◌, not, map}
use Rattle.std.specs.List.{filter}
use Rattle.prima_base.specs.Columns.{Column, names_of}
use Rattle.schema_catalog.specs.Tables.{Tables}
use Rattle.cond_expr.specs.declared.expr.Whose.TheVariants.{Atom}
use Rattle.cond_expr.specs.declared.expr.CmpOp.{CmpOp}
use Rattle.cond_expr.specs.declared.expr.CmpOp.TheVariants.{Eq, Ne, Lt, Le, Gt, Ge}
use Rattle.cond_expr.specs.Trees.{Tree, column, Test, compared, fails, for_atoms, fill_test}
use Rattle.smo_ops_types.specs.Operators.{Operator, nop, create_table, drop_table, rename_table}
use Rattle.smo_ops_types.specs.Operators.{copy_table, merge_table, partition_table, decompose_table}
use Rattle.smo_ops_types.specs.Operators.{join_table, add_column, drop_column, rename_column}
use Rattle.smo_ops_spec.specs.Preconditions.{among}
use Rattle.smo_ops_spec.specs.Effects.{columns_of}
pub use Rattle.smo_ops_spec.specs.Making.{common_names}
use Rattle.cond_expr.specs.Parts.{parts_but_true}
use Rattle.piece_ir_spec.specs.Views.{PlainView, out_of, whole, Views}

-- the rows of one table that meet all of these
abbrev pub selected : List ℕ → List Test → PlainView
selected r tests = record { atoms = r ∷ []; parts = tests; outs = [] }

-- the rows of one table, with a tree's value in one column
abbrev pub computed : List ℕ → List ℕ → Tree → PlainView
computed r c t = record { atoms = r ∷ []; parts = []; outs = (c, t) ∷ [] }

-- the comparison that holds just where this one does not
abbrev pub opposite : CmpOp → CmpOp
opposite Eq = Ne
opposite Ne = Eq
opposite Lt = Ge
opposite Le = Gt
opposite Gt = Le
opposite Ge = Lt

-- that a condition is not met: of a comparison the opposite one, by which dead pieces are seen
abbrev pub unmet : Test → Test
unmet (compared o a b) = compared (opposite o) a b
unmet other = fails other

-- the names of the columns that only the second has
abbrev pub second_names : List Column → List Column → List (List ℕ)
second_names cs ds = filter (λ n. not (among n (names_of cs))) (names_of ds)

-- the second of two atoms has what stands in a column; and the two agree in one
abbrev pub from_second : List ℕ → List ℕ × Tree
from_second n = (n, column (Atom 1) n)

abbrev pub in_both : List ℕ → Test
in_both n = compared Eq (column (Atom 0) n) (column (Atom 1) n)

-- what stands for each column of a view's table
abbrev pub shown_in : List (List ℕ × Tree) → Test → Test
shown_in outs c = fill_test (for_atoms (λ i n. out_of outs n)) c

-- each pair of rows that agrees on all common columns and meets the condition; a common column is
-- read from the first
abbrev pub paired : List ℕ → List Column → List ℕ → List Column → Test → PlainView
paired r cs s ds c = record {
  atoms = r ∷ s ∷ [];
  parts = map in_both (common_names cs ds) ++ parts_but_true
      (shown_in (map from_second (second_names cs ds)) c);
  outs = map from_second (second_names cs ds);
}

-- RENAME, COPY: the table as it is. MERGE: each of both. PARTITION: the rows that meet the
-- condition, and those that do not. DECOMPOSE, DROP COLUMN: the rows, of which fewer columns are
-- named. JOIN: the pairs. ADD COLUMN: the expression in the new column. RENAME COLUMN: the old
-- column in the new one. CREATE: a table that no view gives has no row.
abbrev pub operator_views : Tables → Operator → Views
operator_views tables nop = []
operator_views tables (create_table r cs) = (r, []) ∷ []
operator_views tables (drop_table r) = []
operator_views tables (rename_table r t) = (t, whole r ∷ []) ∷ []
operator_views tables (copy_table r t) = (t, whole r ∷ []) ∷ []
operator_views tables (merge_table r s t) = (t, whole r ∷ whole s ∷ []) ∷ []
operator_views tables (partition_table r s c t) =
    (s, selected r (parts_but_true c) ∷ []) ∷ (t, selected r (unmet c ∷ []) ∷ []) ∷ []
operator_views tables (decompose_table r s xs t ys) = (s, whole r ∷ []) ∷ (t, whole r ∷ []) ∷ []
operator_views tables (join_table r s t c) = (
  t,
  paired r (columns_of tables r) s (columns_of tables s) c ∷ [],
) ∷ []
operator_views tables (add_column c e r) = (r, computed r c e ∷ []) ∷ []
operator_views tables (drop_column c r) = (r, whole r ∷ []) ∷ []
operator_views tables (rename_column b r c) = (r, computed r c (column (Atom 0) b) ∷ []) ∷ []
