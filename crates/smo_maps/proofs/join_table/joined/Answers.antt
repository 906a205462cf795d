use Rattle.std.proofs.Common.{◌≡◌, List, [], map, ap, ◌∙◌}
use Rattle.std.specs.List.{filter, flat_map}
use Rattle.std.specs.Option.{unwrap_or}
use Rattle.std.specs.BTreeMap.{get}
use Rattle.relations_spec.specs.Sets.{set_of}
use Rattle.prima_base.specs.Order.{row_cmp}
use Rattle.cond_expr.specs.Seen.{test}
use Rattle.prima_base.specs.Columns.{Column, names_of}
use Rattle.smo_ops_spec.specs.OneRow.{Row, meets}
use Rattle.smo_ops_spec.specs.Making.{joined_columns}
use Rattle.smo_maps.specs.Picking.{source_of, picked_row}
use Rattle.smo_maps.proofs.KeyLaws.{pairs_joined}
use Rattle.smo_maps.proofs.join_table.joined.Goals as goal

pub returns : goal.returns
returns c =
    let cs = c.args.columns.now in
    let ds = c.args.others.now in
    let all : c.in_ok-own.own ≡ joined_columns cs ds = c.in_ok-own.ensures ∙ c.deref-6.ensures.value
    ∙ c.in_ok-all.ensures in
    c.make_set.ensures
    ∙ ap (set_of row_cmp) (c.in_ok-made.ensures
    ∙ ap (λ (own : List Column). filter (meets own (test c.args.cond.now))
    (flat_map (λ (a : Row). map (picked_row c.deref-7.result.now a)
    (unwrap_or (get row_cmp c.in_ok-groups.groups (picked_row c.deref-8.result.now a [])) []))
    c.args.first.now)) all
    ∙ pairs_joined cs ds c.deref-8.result.now c.deref-3.result.now c.in_ok-common.common.items
    (c.deref-8.ensures.value ∙ c.in_ok-keys.ensures
    ∙ ap (map (source_of cs [])) c.deref.ensures.value)
    (c.deref-3.ensures.value ∙ c.in_ok-other_keys.ensures
    ∙ ap (map (source_of ds [])) c.deref-2.ensures.value)
    c.in_ok-common.ensures
    c.deref-7.result.now c.in_ok-names.names.items (test c.args.cond.now) c.args.first.now
    c.args.second.now (λ (key : Row). unwrap_or (get row_cmp c.in_ok-groups.groups key) [])
    (c.deref-7.ensures.value ∙ c.in_ok-sources.ensures
    ∙ ap (map (source_of cs ds)) c.deref-5.ensures.value)
    (c.in_ok-names.ensures ∙ ap names_of (c.deref-4.ensures.value ∙ c.in_ok-all.ensures))
    c.in_ok-groups.ensures)
