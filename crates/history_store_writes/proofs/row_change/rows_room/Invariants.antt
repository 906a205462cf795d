use Rattle.std.proofs.Common.{◌≡◌, ◌+◌, drop}
use Rattle.history_store_writes.specs.RowRoom.{rows_room}
use Rattle.history_store_writes.proofs.row_change.rows_room.Given as goal

abbrev pub invariant-loop-row : goal.invariant-loop-row
invariant-loop-row l = l.room + rows_room (drop l.row-index l.rows) ≡ rows_room l.rows
