use Rattle.std.proofs.Common.{◌≡◌, drop}
use Rattle.prima_base.specs.Order.{row_cmp}
use Rattle.prima_base_rows.proofs.row.compare_rows.Given as goal

abbrev pub invariant-loop-k : goal.invariant-loop-k
invariant-loop-k l = row_cmp (drop l.k l.row) (drop l.k l.other) ≡ row_cmp l.row l.other
