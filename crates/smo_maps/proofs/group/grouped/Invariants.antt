use Rattle.std.proofs.Common.{◌≡◌, take, []}
use Rattle.std.specs.Option.{unwrap_or}
use Rattle.std.specs.BTreeMap.{get}
use Rattle.prima_base.specs.Order.{row_cmp}
use Rattle.smo_ops_spec.specs.OneRow.{Row}
use Rattle.smo_maps.specs.Keys.{of_key}
use Rattle.smo_maps.proofs.group.grouped.Given as goal

abbrev pub invariant-loop-row : goal.invariant-loop-row
invariant-loop-row l = (key : Row) → unwrap_or (get row_cmp l.groups key) []
    ≡ of_key l.keys key (take l.row-index l.rows)
