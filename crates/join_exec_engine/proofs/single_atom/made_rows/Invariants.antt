use Rattle.std.proofs.Common.{◌≡◌, map, take}
use Rattle.prima_base.specs.Timed.{entries_of}
use Rattle.cond_expr.specs.Seen.{tree, test}
use Rattle.join_exec_spec.specs.Answering.{answers}
use Rattle.join_exec_spec.specs.BorrowedOutputs.{BorrowedValues, RowsBorrow, AllStayBorrowed}
use Rattle.join_exec_engine.specs.InSlice.{all_in_slice}
use Rattle.join_exec_engine.proofs.single_atom.made_rows.Given as goal

abbrev pub invariant-loop-i : goal.invariant-loop-i
invariant-loop-i l = record {
  rows : entries_of l.made.items ≡ answers l.columns (map tree l.outs) (test l.cond)
      (all_in_slice l.slice (entries_of (take l.i l.rows.items)));
  borrowed : (which : BorrowedValues) → RowsBorrow which l.columns l.rows.items
      → AllStayBorrowed which (map tree l.outs) l.made.items;
}
