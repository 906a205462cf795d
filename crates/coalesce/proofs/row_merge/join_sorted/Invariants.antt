use Rattle.std.proofs.Common.{◌≡◌, ◌<◌, ◌≤◌, ◌-◌, length}
use Rattle.coalesce.specs.Joining.{merged, standing, touch_rows, join_rows}
use Rattle.coalesce.proofs.row_merge.join_sorted.Given as goal

abbrev pub invariant-rows : goal.invariant-rows
invariant-rows l = (l.kept < l.next) × (l.next ≤ length l.rows.items)
    × (merged touch_rows join_rows l.fn.rows.items
    ≡ standing touch_rows join_rows l.kept l.next l.rows.items)

abbrev pub decreases-rows : goal.decreases-rows
decreases-rows l = length l.rows.items - l.next
