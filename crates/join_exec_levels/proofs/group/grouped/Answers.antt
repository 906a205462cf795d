use Rattle.std.proofs.Common.{List, map, ap, ◌∙◌}
use Rattle.std.specs.BTreeMap.{get}
use Rattle.std.specs.Ordering.{is_eq}
use Rattle.prima_base.specs.declared.timed_row.TimedRow.{TimedRow}
use Rattle.prima_base.specs.declared.value.Value.{Value}
use Rattle.prima_base.specs.declared.value.Val.{Val}
use Rattle.prima_base.specs.Order.{row_cmp, shown}
use Rattle.prima_base.specs.Timed.{entry_of}
use Rattle.join_exec_spec.specs.Keeping.{in_group, values_at}
use Rattle.join_exec_spec.proofs.Groups.{kept_more}
use Rattle.join_exec_levels.proofs.group.grouped.Goals as goal

pub loop-row-preserved : goal.loop-row-preserved
loop-row-preserved c = λ key. kept_more (λ (t : TimedRow).
    is_eq (row_cmp (values_at c.args.places.now (entry_of t).item) key)) c.loop-row.yielded
    c.in-Some.row (is_eq (row_cmp c.of-key.result key))
    (in_group (get row_cmp c.loop-row.groups key)) (in_group (get row_cmp c.put_row.new.groups key))
    (ap (λ (k : List Value). is_eq (row_cmp k key))
    (c.of-key.ensures ∙ c.in_ok-values.ensures.values
    ∙ ap (λ (vs : List Val). values_at c.args.places.now (map shown vs)) c.deref.ensures.value))
    (c.loop-row.invariant key) (c.in_ok-put_row.ensures key)
