use Rattle.std.proofs.Common.{◌≡◌, ◌≤◌, ◌-◌, length}
use Rattle.std.specs.List.{filter_map}
use Rattle.coalesce.specs.Cutting.{kept_row, left}
use Rattle.coalesce.proofs.row_keep.keep.Given as goal

abbrev pub invariant-rows : goal.invariant-rows
invariant-rows l = (l.kept ≤ l.next) × (l.next ≤ length l.rows.items)
    × (filter_map (kept_row l.fn.conditions) l.fn.rows.items
    ≡ left (kept_row l.fn.conditions) l.kept l.next l.rows.items)

abbrev pub decreases-rows : goal.decreases-rows
decreases-rows l = length l.rows.items - l.next
