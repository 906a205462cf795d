use Rattle.std.proofs.Common.{◌≡◌, ◌+◌, ◌≤◌, take, drop, length}
use Rattle.join_exec.specs.Walking.{all_left, unread, AreLeft, AreHeldUntil}
use Rattle.join_exec.proofs.key_rows.put_values.Given as goal

abbrev pub invariant-loop-k : goal.invariant-loop-k
invariant-loop-k g l = record {
  long : length l.cursors ≡ length l.initial.cursors;
  done : AreLeft l.id l.moment (take l.k (all_left l.initial.cursors))
      (take l.k (all_left l.cursors));
  rest : drop l.k (all_left l.cursors) ≡ drop l.k (all_left l.initial.cursors);
  held_until : AreHeldUntil (take l.k (all_left l.initial.cursors)) l.id l.moment l.until
      l.values.items;
  until : l.until ≤ l.end;
  count : l.steps + unread l.cursors ≡ l.initial.steps + unread l.initial.cursors;
  rises : l.initial.steps ≤ l.steps;
}
