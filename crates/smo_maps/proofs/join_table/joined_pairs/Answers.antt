use Rattle.std.proofs.Common.{[], map, refl}
use Rattle.std.specs.Option.{unwrap_or}
use Rattle.std.specs.BTreeMap.{get}
use Rattle.prima_base.specs.Order.{row_cmp}
use Rattle.cond_expr.specs.Seen.{test}
use Rattle.smo_ops_spec.specs.OneRow.{Row, meets}
use Rattle.smo_maps.specs.Picking.{picked_row}
use Rattle.smo_maps.proofs.KeptRows.{flat_more}
use Rattle.smo_maps.proofs.join_table.joined_pairs.Goals as goal

pub loop-row-preserved : goal.loop-row-preserved
loop-row-preserved c = flat_more (meets c.args.own.now (test c.args.cond.now))
    (λ (a : Row). map (picked_row c.args.sources.now a)
    (unwrap_or (get row_cmp c.args.groups.now (picked_row c.args.keys.now a [])) []))
    c.args.first.now c.loop-row.row-index c.row-item.result c.loop-row.made.items
    c.append_partners.new.made.items
    (map (picked_row c.args.sources.now c.row-item.result)
    (unwrap_or (get row_cmp c.args.groups.now (picked_row c.args.keys.now c.row-item.result []))
    []))
    c.loop-row-test.true c.row-item.is c.loop-row.invariant refl c.in_ok-append_partners.ensures
