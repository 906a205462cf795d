use Rattle.std.proofs.Common.{◌≡◌, ◌+◌, ◌≤◌, length}
use Rattle.join_exec.specs.Walking.{left, IsLeft}
use Rattle.join_exec.proofs.left_entries.pass_by.Given as goal

abbrev pub invariant-past : goal.invariant-past
invariant-past g l = record {
  left : IsLeft l.id l.moment (left l.initial.cursor) (left l.cursor);
  count : l.steps + length l.cursor.unread ≡ l.initial.steps + length l.initial.cursor.unread;
  rises : l.initial.steps ≤ l.steps;
}

abbrev pub decreases-past : goal.decreases-past
decreases-past g l = length l.cursor.unread
