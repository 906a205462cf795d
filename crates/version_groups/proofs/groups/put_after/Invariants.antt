use Rattle.std.proofs.Common.{◌≡◌, ◌≤◌, ◌-◌, ◌++◌, length}
use Rattle.std.specs.Prelude.{vec_len, vec_capacity}
use Rattle.std.specs.Vec.Iter.{into_iter_items}
use Rattle.version_groups.proofs.groups.put_after.Given as goal

abbrev pub invariant-loop-table : goal.invariant-loop-table
invariant-loop-table l = record {
  items : l.list.items ++ into_iter_items l.table-iterator ≡ l.initial.list.items
      ++ l.fn.more.items;
  room : length (into_iter_items l.table-iterator) ≤ vec_capacity l.list - vec_len l.list;
}
