use Rattle.std.proofs.Common.{◌≡◌, ◌++◌, List, map, take}
use Rattle.std.specs.List.{flat_map}
use Rattle.prima_base.specs.Timed.{entry_of, entries_of}
use Rattle.cond_expr.specs.declared.expr.Column.{Column}
use Rattle.join_exec_spec.specs.Choosing.{paired}
use Rattle.join_exec_spec.specs.Keeping.{passing, borrowed_tests}
use Rattle.join_exec_spec.specs.BorrowedOutputs.{BorrowedValues, RowBorrows, RowsBorrow}
use Rattle.join_exec_levels.specs.Grouping.{rows_of_runs}
use Rattle.join_exec_levels.proofs.step.put_runs.Given as goal

abbrev pub invariant-loop-run : goal.invariant-loop-run
invariant-loop-run l = record {
  borrowed : (which : BorrowedValues) → (before : List Column) → (own : List Column)
      → RowsBorrow which (before ++ own) l.initial.into.items
      → RowBorrows which before l.choice.values.items → RowsBorrow which own (rows_of_runs l.runs)
      → RowsBorrow which (before ++ own) l.into.items;
  rows : entries_of l.into.items ≡ entries_of l.initial.into.items
      ++ flat_map (flat_map (paired (passing l.columns (borrowed_tests l.tests))
      (entry_of l.choice))) (map entries_of (take l.run-index l.runs));
}
