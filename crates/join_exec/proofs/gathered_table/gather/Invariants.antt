use Rattle.std.proofs.Common.{◌≡◌, ◌+◌, ◌≤◌, [], length}
use Rattle.prima_base.specs.Timed.{entries_of}
use Rattle.join_exec_spec.specs.BorrowedOutputs.{AllBorrowed}
use Rattle.join_exec.specs.Walking.{all_left, unread}
use Rattle.join_exec.proofs.KeysInTurn.{IsAt}
use Rattle.join_exec.proofs.gathered_table.gather.Given as goal

abbrev pub invariant-keys : goal.invariant-keys
invariant-keys g l = record {
  none : l.values.items ≡ [];
  at : IsAt l.table l.slice l.columns l.keys (all_left l.cursors.items)
      (entries_of l.rows.items);
  borrowed : AllBorrowed l.rows.items;
  count : l.steps + (length l.keys + unread l.cursors.items)
      ≡ l.initial.steps + (length l.initial.keys + unread l.initial.cursors.items);
  rises : l.initial.steps ≤ l.steps;
}

abbrev pub decreases-keys : goal.decreases-keys
decreases-keys g l = length l.keys
