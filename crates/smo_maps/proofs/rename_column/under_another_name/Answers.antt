use Rattle.std.proofs.Common.{List, ℕ, [], ap, ◌∙◌}
use Rattle.std.specs.Prelude.{if◌then◌else◌}
use Rattle.std.proofs.lemmas.Result.{IfOk-weaker}
use Rattle.prima_base.specs.Columns.{names_of}
use Rattle.smo_ops_spec.specs.OneRow.{Row, same}
use Rattle.smo_ops_spec.specs.Making.{renamed, moved}
use Rattle.smo_maps.specs.Picking.{source_of}
use Rattle.smo_maps.proofs.Places.{picked_moved, shown_image}
use Rattle.smo_maps.proofs.rename_column.under_another_name.Goals as goal

pub returns : goal.returns
returns c = IfOk-weaker c.image.result _ _ (λ v h. h
    ∙ shown_image (λ (n : List ℕ). source_of c.args.columns.now []
    (if same c.args.into.now n then c.args.column.now else n)) (λ (row : Row). [])
    (moved c.args.columns.now c.args.column.now c.args.into.now)
    (renamed c.args.column.now c.args.into.now c.args.columns.now) c.deref-3.result.now
    c.deref-2.result.now c.args.rows.now
    (c.deref-3.ensures.value ∙ c.in_ok-sources.ensures)
    (c.deref-2.ensures.value ∙ c.in_ok-names.ensures
    ∙ ap names_of (c.deref.ensures.value ∙ c.in_ok-made.ensures))
    (picked_moved c.args.columns.now c.args.column.now c.args.into.now)) c.image.ensures
