use Rattle.std.proofs.Common.{◌≡◌, ◌≤◌, ◌-◌, length}
use Rattle.std.specs.List.{filter_map}
use Rattle.coalesce.specs.Cutting.{cut_row, left}
use Rattle.coalesce.proofs.row_cut.cut_rows.Given as goal

abbrev pub invariant-rows : goal.invariant-rows
invariant-rows l = (l.kept ≤ l.next) × (l.next ≤ length l.rows.items)
    × (filter_map (cut_row l.fn.slice) l.fn.rows.items
    ≡ left (cut_row l.fn.slice) l.kept l.next l.rows.items)

abbrev pub decreases-rows : goal.decreases-rows
decreases-rows l = length l.rows.items - l.next
