use Rattle.std.proofs.Common.{◌≡◌, ◌+◌, drop}
use Rattle.history_store_writes.specs.RowRoom.{row_room}
use Rattle.history_store_writes.proofs.row_change.row_room.Given as goal

abbrev pub invariant-loop-k : goal.invariant-loop-k
invariant-loop-k l = l.room + row_room (drop l.k l.row) ≡ row_room l.row + 1
