use Rattle.std.proofs.Common.{[], ap, ◌∙◌}
use Rattle.std.specs.Option.{unwrap_or}
use Rattle.std.specs.BTreeMap.{get}
use Rattle.std.specs.Ordering.{is_eq}
use Rattle.prima_base.specs.Order.{row_cmp}
use Rattle.smo_ops_spec.specs.OneRow.{Row}
use Rattle.smo_maps.specs.Picking.{picked_row}
use Rattle.smo_maps.proofs.KeptRows.{kept_more}
use Rattle.smo_maps.proofs.group.grouped.Goals as goal

pub loop-row-preserved : goal.loop-row-preserved
loop-row-preserved c = λ key. kept_more (λ (row : Row).
    is_eq (row_cmp (picked_row c.args.keys.now row []) key)) c.args.rows.now c.loop-row.row-index
    c.row-item.result (is_eq (row_cmp c.in_ok-key.key key))
    (unwrap_or (get row_cmp c.loop-row.groups key) [])
    (unwrap_or (get row_cmp c.put_row.new.groups key) []) c.loop-row-test.true c.row-item.is
    (ap (λ (k : Row). is_eq (row_cmp k key)) (c.in_ok-key.ensures
    ∙ ap (λ (row : Row). picked_row c.args.keys.now row []) c.values.ensures))
    (c.loop-row.invariant key) (c.in_ok-put_row.ensures key)
