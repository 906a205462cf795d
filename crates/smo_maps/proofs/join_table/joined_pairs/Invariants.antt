use Rattle.std.proofs.Common.{◌≡◌, [], take, map}
use Rattle.std.specs.Option.{unwrap_or}
use Rattle.std.specs.BTreeMap.{get}
use Rattle.std.specs.List.{filter, flat_map}
use Rattle.prima_base.specs.Order.{row_cmp}
use Rattle.cond_expr.specs.Seen.{test}
use Rattle.smo_ops_spec.specs.OneRow.{Row, meets}
use Rattle.smo_maps.specs.Picking.{picked_row}
use Rattle.smo_maps.proofs.join_table.joined_pairs.Given as goal

abbrev pub invariant-loop-row : goal.invariant-loop-row
invariant-loop-row l = l.made.items ≡ filter (meets l.own (test l.cond))
    (flat_map (λ (a : Row). map (picked_row l.sources a)
    (unwrap_or (get row_cmp l.groups (picked_row l.keys a [])) [])) (take l.row-index l.first))
