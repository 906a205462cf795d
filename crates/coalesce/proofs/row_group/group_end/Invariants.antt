use Rattle.std.proofs.Common.{◌<◌, ◌≤◌, ◌-◌, length}
use Rattle.coalesce.proofs.row_group.group_end.Given as goal

abbrev pub invariant-rows : goal.invariant-rows
invariant-rows l = (l.fn.start < l.end) × (l.end ≤ length l.fn.rows.items)

abbrev pub decreases-rows : goal.decreases-rows
decreases-rows l = length l.fn.rows.items - l.end
