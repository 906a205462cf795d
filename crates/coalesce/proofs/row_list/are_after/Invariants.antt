use Rattle.std.proofs.Common.{◌≡◌, ◌<◌, ◌≤◌, ◌-◌, length, drop, get_or}
use Rattle.prima_base.specs.declared.timed_row.TimedRow.{TimedRow}
use Rattle.coalesce.specs.Listed.{are_after}
use Rattle.coalesce.proofs.row_list.are_after.Given as goal

abbrev pub invariant-rows : goal.invariant-rows
invariant-rows l = (0 < l.next) × (l.next ≤ length l.fn.rows.items)
    × ((d : TimedRow) → are_after l.fn.slice (get_or l.fn.rows.items 0 d) (drop 1 l.fn.rows.items)
    ≡ are_after l.fn.slice (get_or l.fn.rows.items (l.next - 1) d) (drop l.next l.fn.rows.items))

abbrev pub decreases-rows : goal.decreases-rows
decreases-rows l = length l.fn.rows.items - l.next
