use Rattle.std.proofs.Common.{◌≡◌, map, ap, sym, subst, ◌∙◌, List}
use Rattle.smo_ops_types.specs.Commands.{version_of, versions_of}
use Rattle.smo_ops_types.specs.declared.version.Version.{Version}
use Rattle.smo_ops_versions_spec.specs.Lifelines.{lifelines_of, lifeline_columns}
use Rattle.store_image_spec.specs.Images.{IsImage}
use Rattle.store_image_spec.specs.ShownPast.{image_past}
use Rattle.store_image_reader.specs.Seen.{image_seen}
use Rattle.version_groups.specs.Restoring.{IsPastOf}
use Rattle.store_image.specs.ImageIn.{image_in, bare}
use Rattle.store_image.proofs.RestoredImages.{all_made, some_cells, enough_lines, same_columns}
use Rattle.store_image.proofs.RestoredImages.{same_image, past_of}
use Rattle.store_image.proofs.image_source.restored.Goals as goal

pub tables_of-requires-clause-tables : goal.tables_of-requires-clause-tables
tables_of-requires-clause-tables c =
    let is = c.requires.valid in
    all_made c.args.image.last (lifelines_of (versions_of c.args.image.versions))
    c.args.image.lines.items is.each (some_cells (image_seen c.args.image) is) c.requires.order

pub tables_of-requires-clause-enough : goal.tables_of-requires-clause-enough
tables_of-requires-clause-enough c = enough_lines (lifelines_of (versions_of c.args.image.versions))
    c.args.image.lines.items c.requires.valid.lines

pub restore-requires-clause-stores : goal.restore-requires-clause-stores
restore-requires-clause-stores c = same_columns c.in_ok-tables.tables.items
    (image_seen c.args.image).lines c.in_ok-tables.ensures
    ∙ ap lifeline_columns c.requires.valid.lines

pub returns-clause-image : goal.returns-clause-image
returns-clause-image c =
    let groups = c.in_ok-groups.ensures in
    same_image c.in_ok-groups.groups (image_seen c.args.image)
    (ap (λ (vs : List Version). map version_of vs) groups.versions) groups.restored.lifelines
    c.requires.valid.lines (ap (map bare) groups.stores ∙ c.in_ok-tables.ensures)

pub returns-clause-represents : goal.returns-clause-represents
returns-clause-represents c = λ n.
    let kept = c.in_ok-groups.groups in
    let image = image_seen c.args.image in
    let same : image_in kept image.last ≡ image = returns-clause-image c in
    let restored = c.in_ok-groups.ensures.restored in
    c.restored_groups_represent.ensures (image_past n image) restored
    (subst (λ i. IsPastOf kept (image_past n i)) same
    (past_of kept image.last n (subst IsImage (sym same) c.requires.valid) restored.lifelines))
