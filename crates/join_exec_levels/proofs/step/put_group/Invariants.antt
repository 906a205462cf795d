use Rattle.std.proofs.Common.{◌≡◌, ◌++◌, List, take}
use Rattle.std.specs.List.{flat_map}
use Rattle.prima_base.specs.Timed.{entry_of, entries_of}
use Rattle.cond_expr.specs.declared.expr.Column.{Column}
use Rattle.join_exec_spec.specs.Choosing.{paired}
use Rattle.join_exec_spec.specs.Keeping.{passing, borrowed_tests}
use Rattle.join_exec_spec.specs.BorrowedOutputs.{BorrowedValues, RowBorrows, RowsBorrow}
use Rattle.join_exec_levels.proofs.step.put_group.Given as goal

abbrev pub invariant-loop-row : goal.invariant-loop-row
invariant-loop-row l = record {
  rows : entries_of l.into.items ≡ entries_of l.fn.into.items
      ++ flat_map (paired (passing l.columns (borrowed_tests l.tests)) (entry_of l.choice))
      (entries_of (take l.row-index l.rows));
  borrowed : (which : BorrowedValues) → (before : List Column) → (own : List Column)
      → RowsBorrow which (before ++ own) l.fn.into.items
      → RowBorrows which before l.choice.values.items
      → RowsBorrow which own l.rows → RowsBorrow which (before ++ own) l.into.items;
}
