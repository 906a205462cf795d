use Rattle.std.proofs.Common.{[], ◌∙◌}
use Rattle.std.proofs.lemmas.Result.{IfOk-weaker}
use Rattle.schema_catalog.specs.Databases.{cell}
use Rattle.smo_ops_spec.specs.OneRow.{Row}
use Rattle.smo_maps.specs.Picking.{source_of}
use Rattle.smo_maps.proofs.Places.{picked_own, shown_image}
use Rattle.smo_maps.proofs.projection.projection.Goals as goal

pub returns : goal.returns
returns c = IfOk-weaker c.image.result _ _ (λ v h. h
    ∙ shown_image (source_of c.args.columns.now []) (λ (row : Row). []) (cell c.args.columns.now)
    c.args.kept.now c.deref-2.result.now c.deref.result.now c.args.rows.now
    (c.deref-2.ensures.value ∙ c.in_ok-sources.ensures)
    (c.deref.ensures.value ∙ c.in_ok-names.ensures) (picked_own c.args.columns.now))
    c.image.ensures
