use Rattle.std.proofs.Common.{◌≡◌, ◌≤◌, ◌+◌, ◌++◌, drop}
use Rattle.history_store_row_order.specs.Handing.{given_ids}
use Rattle.history_store_row_order.proofs.walk.next_ids.Given as goal

abbrev pub invariant-loop-owner : goal.invariant-loop-owner
invariant-loop-owner l = record {
  few : l.fresh ≤ l.next + l.owner-index;
  ids : given_ids l.owners l.lost l.next ≡ l.ids.items
      ++ given_ids (drop l.owner-index l.owners) (drop l.k l.lost) l.fresh;
}
