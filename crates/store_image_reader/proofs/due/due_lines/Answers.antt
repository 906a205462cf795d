use Rattle.std.proofs.Common.{◌≡◌, ◌+◌, ◌<◌, ◌∷◌, map, drop, length, get_or, subst, sym, ap, ◌∙◌}
use Rattle.smo_ops_types.specs.Commands.{version_of}
use Rattle.smo_ops_spec.specs.Past.{no_tables}
use Rattle.smo_ops_versions_spec.specs.Lifelines.{lifelines_from}
use Rattle.store_image_reader.specs.Seen.{line_seen}
use Rattle.store_image_rows.proofs.ListPlaces.{dropped_plain}
use Rattle.store_image_reader.proofs.due.due_lines.Goals as goal

pub loop-before-init : goal.loop-before-init
loop-before-init c = (
  no_tables,
  ap (λ l. lifelines_from no_tables 0 (map line_seen l)
      (map version_of c.args.versions.now.list.items)) (sym c.new-lines.ensures.items),
)

pub loop-before-preserved : goal.loop-before-preserved
loop-before-preserved c =
    let vs = c.args.versions.now.list.items in
    let v = c.version-item.result in
    let b = c.loop-before.before in
    let so = c.loop-before.invariant in
    let under : b < length vs = subst (λ l. b < length l) c.deref-version-items.ensures.value
    c.loop-before-test.true in
    let is : v ≡ get_or vs b v = subst (λ l. v ≡ get_or l b v) c.deref-version-items.ensures.value
    c.version-item.is in
    let here : map version_of (drop b vs) ≡ version_of v ∷ map version_of (drop (b + 1) vs) =
    ap (map version_of) (dropped_plain vs b v under is) in (
      v.schema,
      so.1 ∙ ap (lifelines_from so.0 b (map line_seen c.loop-before.lines.items)) here
          ∙ ap (λ l. lifelines_from v.schema (b + 1) l (map version_of (drop (b + 1) vs)))
          (sym (c.in_ok-put_version.ensures so.0)),
    )
