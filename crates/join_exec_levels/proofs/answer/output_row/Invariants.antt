use Rattle.std.proofs.Common.{◌≡◌, map, take}
use Rattle.prima_base.specs.Order.{shown}
use Rattle.cond_expr.specs.Seen.{tree}
use Rattle.cond_expr.specs.Values.{value}
use Rattle.cond_expr.specs.Rows.{cells}
use Rattle.join_exec_spec.specs.BorrowedOutputs.{BorrowedValues, RowBorrows, StaysBorrowed}
use Rattle.join_exec_levels.proofs.answer.output_row.Given as goal

abbrev pub invariant-loop-out : goal.invariant-loop-out
invariant-loop-out l = record {
  values : map shown l.row.items ≡ map (λ e. value (cells l.columns (map shown l.values)) (tree e))
      (take l.out-index l.outs);
  borrowed : (which : BorrowedValues) → RowBorrows which l.columns l.values
      → StaysBorrowed which (map tree (take l.out-index l.outs)) l.row.items;
}
