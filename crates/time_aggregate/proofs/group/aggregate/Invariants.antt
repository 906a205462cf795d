use Rattle.std.proofs.Common.{◌≤◌, ◌-◌, length, take}
use Rattle.prima_base.specs.Groups.{groups_shown}
use Rattle.time_aggregate.proofs.Grouping.{IsApart}
use Rattle.time_aggregate.proofs.GroupSteps.{BothKnown}
use Rattle.time_aggregate.proofs.group.aggregate.Given as goal

abbrev pub invariant-groups : goal.invariant-groups
invariant-groups l = (l.start ≤ length l.fn.rows.items)
    × IsApart l.fn.group l.fn.rows.items l.start
    × BothKnown l.fn.group l.fn.items (take l.start l.fn.rows.items) (groups_shown l.listed.items)

abbrev pub decreases-groups : goal.decreases-groups
decreases-groups l = length l.fn.rows.items - l.start
