use Rattle.std.proofs.Common.{◌≡◌, drop}
use Rattle.history_store_row_order.specs.Logs.{cells_of}
use Rattle.history_store_row_order.specs.Rows.{row_now}
use Rattle.history_store.proofs.likeness.same_row.Given as goal

abbrev pub invariant-loop-k : goal.invariant-loop-k
invariant-loop-k l = row_now l.id (cells_of (drop l.k l.columns))
    ≡ row_now l.other (cells_of (drop l.k l.others))
    → row_now l.id (cells_of l.columns) ≡ row_now l.other (cells_of l.others)
