use Rattle.std.proofs.Common.{◌≡◌, List, take}
use Rattle.prima_base.specs.Timed.{entries_of}
use Rattle.cond_expr.specs.declared.expr.Column.{Column}
use Rattle.join_exec_spec.specs.BorrowedOutputs.{BorrowedValues, RowsBorrow}
use Rattle.join_exec_engine.proofs.listed_rows.listed.Given as goal

abbrev pub invariant-loop-i : goal.invariant-loop-i
invariant-loop-i l = record {
  entries : entries_of l.list.items ≡ entries_of (take l.i l.rows.items);
  borrowed : (which : BorrowedValues) → (columns : List Column)
      → RowsBorrow which columns l.rows.items → RowsBorrow which columns l.list.items;
}
