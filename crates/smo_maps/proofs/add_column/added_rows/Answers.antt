use Rattle.std.proofs.Common.{List, [], ◌∷◌, ap, ◌∙◌}
use Rattle.prima_base.specs.Columns.{Column}
use Rattle.cond_expr.specs.Seen.{tree}
use Rattle.cond_expr.specs.Values.{value}
use Rattle.smo_ops_spec.specs.OneRow.{Row, own_cells}
use Rattle.smo_maps.specs.Picking.{picked_row}
use Rattle.smo_maps.proofs.KeptRows.{shown_one}
use Rattle.smo_maps.proofs.add_column.added_rows.Goals as goal

pub loop-row-preserved : goal.loop-row-preserved
loop-row-preserved c = shown_one (λ (row : Row).
    picked_row c.args.sources.now row (value (own_cells c.args.columns.now row)
    (tree c.args.expr.now) ∷ [])) c.args.rows.now c.loop-row.row-index c.row-item.result
    c.loop-row.added_value.items c.push.new.self.items c.in_ok-added_row.field-0
    c.loop-row-test.true
    c.row-item.is c.loop-row.invariant
    (c.in_ok-added_row.ensures ∙ ap (λ (cs : List Column).
    picked_row c.args.sources.now c.row-item.result
    (value (own_cells cs c.row-item.result) (tree c.args.expr.now) ∷ [])) c.in_ok-own.ensures)
    c.in_ok-push.ensures.items
