use Rattle.std.proofs.Common.{◌≡◌, ◌++◌, take}
use Rattle.history_store_row_order.specs.Handing.{no_owners}
use Rattle.history_store_row_order.proofs.walk.add_new.Given as goal

abbrev pub invariant-loop-row : goal.invariant-loop-row
invariant-loop-row l = record {
  owners : l.owners.items ≡ l.initial.owners.items ++ no_owners (take l.row-index l.rows);
  gained : l.gained.items ≡ l.initial.gained.items ++ take l.row-index l.rows;
}
