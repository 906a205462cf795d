-- Rows that are read by their places.
use Rattle.std.proofs.Common.{◌≡◌, ◌<◌, ℕ, List, [], ◌∷◌, length, map, get_or}
use Rattle.std.proofs.Common.{drop, zero, suc, inl, inr, refl, sym, subst, arith}
use Rattle.prima_base.specs.declared.timed_row.TimedRow.{TimedRow}
use Rattle.prima_base.specs.declared.value.Val.{Val}
use Rattle.prima_base.specs.Order.{shown, is_borrowed}
use Rattle.prima_base.specs.Timed.{entry_of, entries_of}
use Rattle.cond_expr.specs.declared.expr.Column.{Column}
use Rattle.join_exec_spec.specs.BorrowedOutputs.{BorrowedValues, RowBorrows}
use Rattle.join_exec_spec.specs.Keeping.{IsValidRow, AllValid}
use Rattle.join_exec_spec.proofs.BorrowedLaws.{both_borrow}
use Rattle.prima_base_rows.proofs.Moves.{no_row}
use Rattle.join_exec_engine.proofs.KeptRows.{next_valid}

-- the values that were read at a place are valid
pub read_valid : (rows : List TimedRow) (i : ℕ) (values : List Val)
    → AllValid (entries_of (drop i rows)) → i < length rows
    → values ≡ (get_or rows i no_row).values.items → IsValidRow (map shown values)
read_valid rows i values valid below is =
    subst (λ (vs : List Val). IsValidRow (map shown vs)) (sym is)
    (next_valid rows i (get_or rows i no_row) no_row valid below refl)

-- what is borrowed of copied values is what was borrowed of them
pub copies_borrow : (which : BorrowedValues) (columns : List Column) (values new : List Val)
    → map shown new ≡ map shown values → map is_borrowed new ≡ map is_borrowed values
    → RowBorrows which columns values → RowBorrows which columns new
copies_borrow which columns values new e b l =
    both_borrow which [] columns [] values new e b tt l

pub valid_at : (rows : List TimedRow) (i : ℕ) (values : List Val) → AllValid (entries_of rows)
    → i < length rows → values ≡ (get_or rows i no_row).values.items
    → IsValidRow (map shown values)
valid_at [] i values valid below is = absurd (omega arith)
valid_at (row ∷ rows) zero values valid below is =
    subst (λ (vs : List Val). IsValidRow (map shown vs)) (sym is) (valid (entry_of row) (inl refl))
valid_at (row ∷ rows) (suc i) values valid below is =
    valid_at rows i values (λ e m. valid e (inr m)) (omega arith) is
