use Rattle.std.proofs.Common.{◌≡◌, List}
use Rattle.std.specs.BTreeMap.{get}
use Rattle.std.specs.Ordering.{is_eq}
use Rattle.std.specs.List.{filter}
use Rattle.prima_base.specs.declared.timed_row.TimedRow.{TimedRow}
use Rattle.prima_base.specs.declared.value.Value.{Value}
use Rattle.prima_base.specs.Order.{row_cmp}
use Rattle.prima_base.specs.Timed.{entry_of}
use Rattle.join_exec_spec.specs.Keeping.{in_group, values_at}
use Rattle.join_exec_levels.proofs.group.grouped.Given as goal

abbrev pub invariant-loop-row : goal.invariant-loop-row
invariant-loop-row l = (key : List Value) → in_group (get row_cmp l.groups key)
    ≡ filter (λ (t : TimedRow). is_eq (row_cmp (values_at l.places (entry_of t).item) key))
    l.yielded
