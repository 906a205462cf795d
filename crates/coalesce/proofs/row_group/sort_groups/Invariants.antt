use Rattle.std.proofs.Common.{◌≡◌, ◌≤◌, ◌-◌, length}
use Rattle.std.specs.List.Sorted.{IsPermutation}
use Rattle.coalesce.proofs.row_group.sort_groups.Given as goal

abbrev pub invariant-groups : goal.invariant-groups
invariant-groups l = (l.start ≤ length l.rows.items)
    × (length l.rows.items ≡ length l.fn.rows.items)
    × IsPermutation l.fn.rows.items l.rows.items

abbrev pub decreases-groups : goal.decreases-groups
decreases-groups l = length l.rows.items - l.start
