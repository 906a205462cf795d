use Rattle.std.proofs.Common.{rules, arith, ◌≡◌, ◌++◌, [], ◌∷◌, ◌∙◌, List, None, Some, map}
use Rattle.std.proofs.Common.{append_assoc, ap, sym, subst}
use Rattle.std.specs.Vec.Iter.{into_iter_items}
use Rattle.std.proofs.lemmas.List.{map-append}
use Rattle.schema_catalog.specs.Tables.{Tables}
use Rattle.smo_ops_types.specs.declared.version.Version.{Version}
use Rattle.smo_ops_types.specs.Commands.{version_of}
use Rattle.smo_ops_spec.specs.After.{IsValid}
use Rattle.smo_ops_spec.specs.ValidPast.{AreVersions}
use Rattle.smo_ops_spec.specs.Past.{no_tables, newest_from}
use Rattle.version_groups_tables.specs.Restoring.{stores_of}
use Rattle.version_groups.specs.Groups.{versions_in}
use Rattle.version_groups.specs.Lifelines.{lifelines_of, lifeline_columns}
use Rattle.version_groups.proofs.RestoredGroups.{no_versions, nothing_stored, nothing_restored}
use Rattle.version_groups.proofs.RestoredGroups.{newest_is_last, next_valid, rest_accepted}
use Rattle.version_groups.proofs.RestoredGroups.{next_due, none_left, all_taken}
use Rattle.version_groups.proofs.groups.Groups.restore.Goals as goal

pub loop-version-init : goal.loop-version-init
loop-version-init c =
    let kept = c.new-groups.result in
    let represents = c.new-groups.ensures in
    let left : into_iter_items c.into_iter-version-iterator.result ≡ c.args.versions.list.items =
    search rules in
    let stores = c.into_iter-left.ensures.rest in
    record {
      restored = nothing_restored kept represents;
      done = ap (λ (vs : List Version). vs ++ into_iter_items c.into_iter-version-iterator.result)
          (no_versions kept represents) ∙ left;
      taken = ap (λ ts. stores_of ts ++ into_iter_items c.into_iter-left.result)
          (nothing_stored kept represents) ∙ stores;
      valid = search rules;
      accepted = (
        None,
        subst (λ vs. AreVersions None (newest_from no_tables vs)
            (map version_of (into_iter_items c.into_iter-version-iterator.result)))
            (sym represents.versions)
            (subst (λ (vs : List Version). AreVersions None no_tables (map version_of vs))
            (sym left) c.requires.versions),
      );
    }

pub restore_version-requires-clause-due : goal.restore_version-requires-clause-due
restore_version-requires-clause-due c =
    let kept = c.loop-version.groups in
    let h = c.loop-version.invariant in
    let rest = into_iter_items c.next.new.self in
    let all : c.args.versions.list.items ≡ kept.versions ++ c.in-Some.version ∷ rest = sym h.done
    ∙ ap (λ (vs : List Version). kept.versions ++ vs) c.in-Some.ensures.steps.0 in
    next_due kept h.restored (into_iter_items c.loop-version.left) c.args.stores.items
    (version_of c.in-Some.version) (map version_of rest) h.taken
    (c.requires.stores ∙ ap (λ (vs : List Version).
    lifeline_columns (lifelines_of (map version_of vs)))
    all
    ∙ ap (λ vs. lifeline_columns (lifelines_of vs))
    (map-append version_of kept.versions (c.in-Some.version ∷ rest)))

pub loop-version-preserved : goal.loop-version-preserved
loop-version-preserved c =
    let kept = c.loop-version.groups in
    let new = c.restore_version.new.self in
    let h = c.loop-version.invariant in
    let v = c.in-Some.version in
    let rest = into_iter_items c.next.new.self in
    let left = into_iter_items c.loop-version.version-iterator in
    let before = newest_from no_tables (versions_in kept) in
    let steps = c.in-Some.ensures.steps.0 in
    let more = c.in_ok-restore_version.ensures.versions in
    let newest : newest_from no_tables (versions_in new) ≡ v.schema =
    newest_is_last kept.versions new.versions v more in
    record {
      restored = c.in_ok-restore_version.ensures.restored;
      done = ap (λ (vs : List Version). vs ++ rest) more ∙ append_assoc kept.versions (v ∷ []) rest
          ∙ ap (λ (vs : List Version). kept.versions ++ vs) (sym steps) ∙ h.done;
      taken = c.in_ok-restore_version.ensures.taken ∙ h.taken;
      valid = subst IsValid (sym newest) (next_valid h.accepted.0 before v rest left steps
          h.accepted.1 h.valid);
      accepted = (
        Some v.stamp,
        subst (λ (t : Tables). AreVersions (Some v.stamp) t (map version_of rest)) (sym newest)
            (rest_accepted h.accepted.0 before v rest left steps h.accepted.1 h.valid),
      );
    }

pub returns-clause-stores : goal.returns-clause-stores
returns-clause-stores c =
    let kept = c.loop-version.groups in
    let h = c.loop-version.invariant in
    let ended = c.in-None.ensures.steps.0 in
    let ok = c.loop-version.version-iterator.rest.ok.0 in
    let all : kept.versions ≡ c.args.versions.list.items =
    none_left kept.versions (into_iter_items c.loop-version.version-iterator)
    c.args.versions.list.items (omega (arith, ended, ok)) h.done in
    all_taken kept h.restored (into_iter_items c.loop-version.left) c.args.stores.items h.taken
    (c.requires.stores ∙ ap (λ (vs : List Version).
    lifeline_columns (lifelines_of (map version_of vs)))
    (sym all))
