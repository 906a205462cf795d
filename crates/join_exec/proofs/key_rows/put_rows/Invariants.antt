use Rattle.std.proofs.Common.{◌≡◌, ◌+◌, ◌≤◌, [], ◌-◌}
use Rattle.relations_spec.specs.Spans.{span}
use Rattle.prima_base.specs.Timed.{entries_of}
use Rattle.join_exec_spec.specs.BorrowedOutputs.{AllBorrowed}
use Rattle.join_exec.specs.Walking.{all_left, unread, AreLeft, AreAdded}
use Rattle.join_exec.proofs.key_rows.put_rows.Given as goal

abbrev pub invariant-moments : goal.invariant-moments
invariant-moments g l = record {
  from : l.period.start ≤ l.moment;
  to : l.moment ≤ l.period.end;
  none : l.values.items ≡ [];
  left : AreLeft l.id l.moment (all_left l.initial.cursors) (all_left l.cursors);
  rows : AreAdded (span l.period.start l.moment) (all_left l.initial.cursors) l.id
      (entries_of l.initial.rows.items) (entries_of l.rows.items);
  borrowed : AllBorrowed l.initial.rows.items → AllBorrowed l.rows.items;
  count : l.steps + unread l.cursors ≡ l.initial.steps + unread l.initial.cursors;
  rises : l.initial.steps ≤ l.steps;
}

abbrev pub decreases-moments : goal.decreases-moments
decreases-moments g l = l.period.end - l.moment
