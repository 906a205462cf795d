use Rattle.std.proofs.Common.{◌≡◌, drop, take, length}
use Rattle.prima_base.specs.Order.{row_cmp}
use Rattle.history_store_row_order.specs.Logs.{cells_of}
use Rattle.history_store_row_order.specs.Rows.{row_now}
use Rattle.history_store_row_order.proofs.walk.compare_lead.Given as goal

abbrev pub invariant-loop-k : goal.invariant-loop-k
invariant-loop-k l = record {
  prefix : row_cmp (take (length l.lead) (row_now l.id (cells_of l.columns))) l.lead
      ≡ row_cmp (take (length (drop l.k l.lead)) (row_now l.id (cells_of (drop l.k l.columns))))
      (drop l.k l.lead);
  same : row_cmp (row_now l.id (cells_of l.columns)) l.lead
      ≡ row_cmp (row_now l.id (cells_of (drop l.k l.columns))) (drop l.k l.lead);
}
