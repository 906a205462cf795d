use Rattle.std.proofs.Common.{◌≡◌, take}
use Rattle.join_exec.specs.Reading.{entries_in}
use Rattle.join_exec.specs.Walking.{all_left, unread}
use Rattle.join_exec.specs.Gathered.{columns_in}
use Rattle.join_exec.proofs.gathered_table.all_entries.Given as goal

abbrev pub invariant-loop-name : goal.invariant-loop-name
invariant-loop-name l = record {
  left : all_left l.cursors.items ≡ columns_in l.table (take l.name-index l.columns);
  unread : unread l.cursors.items ≡ entries_in l.table (take l.name-index l.columns);
}
