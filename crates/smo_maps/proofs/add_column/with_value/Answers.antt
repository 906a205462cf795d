use Rattle.std.proofs.Common.{List, ℕ, [], ◌∷◌, map, ap, ◌∙◌}
use Rattle.std.proofs.lemmas.Result.{IfOk-weaker}
use Rattle.prima_base.specs.declared.value.ColType.TheVariants.{Int as INT}
use Rattle.cond_expr.specs.Seen.{tree}
use Rattle.cond_expr.specs.Values.{value}
use Rattle.smo_ops_spec.specs.OneRow.{Row, own_cells}
use Rattle.smo_ops_spec.specs.Making.{with_column, added_value}
use Rattle.smo_maps.specs.Picking.{source_of}
use Rattle.smo_maps.proofs.Places.{picked_added, shown_image}
use Rattle.smo_maps.proofs.add_column.with_value.Goals as goal

pub returns : goal.returns
returns c = λ kind. IfOk-weaker c.added_rows.result _ _
    (λ v h. h ∙ shown_image (source_of c.args.columns.now ((c.args.column.now, INT) ∷ []))
    (λ (row : Row). value (own_cells c.args.columns.now row) (tree c.args.expr.now) ∷ [])
    (added_value c.args.columns.now c.args.column.now (tree c.args.expr.now))
    (with_column c.args.column.now kind c.args.columns.now) c.deref-2.result.now
    c.deref.result.now c.args.rows.now
    (c.deref-2.ensures.value ∙ c.in_ok-sources.ensures
    ∙ ap (λ (n : List ℕ). map (source_of c.args.columns.now ((n, INT) ∷ [])) c.deref.result.now)
    c.in_ok-copy.ensures)
    (c.deref.ensures.value ∙ c.in_ok-names.ensures kind)
    (λ row n. picked_added c.args.columns.now c.args.column.now n INT
    (value (own_cells c.args.columns.now row) (tree c.args.expr.now)) row c.requires.new))
    c.added_rows.ensures
