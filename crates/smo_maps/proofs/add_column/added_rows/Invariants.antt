use Rattle.std.proofs.Common.{◌≡◌, take, map, [], ◌∷◌}
use Rattle.cond_expr.specs.Seen.{tree}
use Rattle.cond_expr.specs.Values.{value}
use Rattle.smo_ops_spec.specs.OneRow.{Row, own_cells}
use Rattle.smo_maps.specs.Picking.{picked_row}
use Rattle.smo_maps.proofs.add_column.added_rows.Given as goal

abbrev pub invariant-loop-row : goal.invariant-loop-row
invariant-loop-row l = l.added_value.items ≡ map (λ (row : Row).
    picked_row l.sources row (value (own_cells l.columns row) (tree l.expr) ∷ []))
    (take l.row-index l.rows)
