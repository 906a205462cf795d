use Rattle.std.proofs.Common.{◌≡◌, ◌≤◌, ◌-◌, drop, length}
use Rattle.std.specs.List.{filter}
use Rattle.prima_base.specs.declared.timed_row.TimedRow.{TimedRow}
use Rattle.prima_base.specs.Timed.{entry_of, entries_of}
use Rattle.join_exec_spec.specs.Keeping.{meets_all, borrowed_tests, AllValid}
use Rattle.join_exec_engine.proofs.KeptRows.{left}
use Rattle.join_exec_engine.proofs.own_part.passing.Given as goal

abbrev pub invariant-rows : goal.invariant-rows
invariant-rows l = record {
  kept : l.kept ≤ l.next;
  next : l.next ≤ length l.rows.items;
  valid : AllValid (entries_of (drop l.next l.rows.items));
  stands : left (λ (t : TimedRow). meets_all l.columns (borrowed_tests l.conds) (entry_of t).item)
      l.kept l.next l.rows.items
      ≡ filter (λ (t : TimedRow). meets_all l.columns (borrowed_tests l.conds) (entry_of t).item)
      l.fn.rows.items;
}

abbrev pub decreases-rows : goal.decreases-rows
decreases-rows l = length l.rows.items - l.next
