use Rattle.std.proofs.Common.{◌≡◌, drop, take, length}
use Rattle.prima_base.specs.Order.{row_cmp}
use Rattle.prima_base_rows.proofs.row.compare_prefix.Given as goal

abbrev pub invariant-loop-k : goal.invariant-loop-k
invariant-loop-k l = row_cmp (drop l.k (take (length l.values) l.row)) (drop l.k l.values)
    ≡ row_cmp (take (length l.values) l.row) l.values
