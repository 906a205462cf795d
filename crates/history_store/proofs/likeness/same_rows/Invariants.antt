use Rattle.std.proofs.Common.{◌≡◌, take}
use Rattle.history_store_row_order.specs.Logs.{cells_of}
use Rattle.history_store_row_order.specs.Rows.{rows_of}
use Rattle.history_store.proofs.likeness.same_rows.Given as goal

abbrev pub invariant-loop-at : goal.invariant-loop-at
invariant-loop-at l = rows_of (take l.at l.index.ids) (cells_of l.columns)
    ≡ rows_of (take l.at l.other_index.ids) (cells_of l.others)
