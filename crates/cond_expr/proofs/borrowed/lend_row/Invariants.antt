use Rattle.std.proofs.Common.{◌≡◌, map, take}
use Rattle.prima_base.specs.Order.{shown}
use Rattle.cond_expr.specs.Rows.{AreValid, AreBorrowed}
use Rattle.cond_expr.proofs.borrowed.lend_row.Given as goal

abbrev pub invariant-loop-value : goal.invariant-loop-value
invariant-loop-value l = record {
  values : map shown l.borrowed.items ≡ take l.value-index l.row;
  valid : AreValid l.borrowed.items;
  borrowed : AreBorrowed l.borrowed.items;
}
