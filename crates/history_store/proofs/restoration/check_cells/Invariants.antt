use Rattle.std.proofs.Common.{◌≡◌, ◌<◌, ◌+◌, ◌^◌, drop}
use Rattle.history_store.specs.Store.{cells_in}
use Rattle.history_store.specs.Restoring.{entries_of}
use Rattle.history_store.proofs.restoration.check_cells.Given as goal

abbrev pub invariant-loop-list : goal.invariant-loop-list
invariant-loop-list l = record {
  few : l.count < 2 ^ 64;
  whole : cells_in (entries_of l.cells) ≡ l.count + cells_in
      (entries_of (drop l.list-index l.cells));
}
