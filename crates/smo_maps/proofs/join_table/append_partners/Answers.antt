use Rattle.std.proofs.Common.{◌≡◌, [], ◌++◌, map, sym, ap, ◌∙◌}
use Rattle.std.specs.Prelude.{Option}
use Rattle.std.specs.List.{filter}
use Rattle.std.specs.Option.{unwrap_or, option_copied}
use Rattle.std.specs.BTreeMap.{get}
use Rattle.std.proofs.lemmas.List.{append-nil}
use Rattle.std.proofs.lemmas.Result.{on_ok_weaker}
use Rattle.prima_base.specs.Order.{row_cmp}
use Rattle.cond_expr.specs.Seen.{test}
use Rattle.smo_ops_spec.specs.OneRow.{Row, Relation, meets}
use Rattle.smo_maps.specs.Picking.{picked_row}
use Rattle.smo_maps.proofs.join_table.append_partners.Goals as goal

pub returns-in-Some : goal.returns-in-Some
returns-in-Some c =
    let here : unwrap_or (get row_cmp c.args.groups.now
    (picked_row c.args.keys.now c.args.row.now [])) [] ≡ c.in-Some.group.now =
    ap (λ (k : Row). unwrap_or (get row_cmp c.args.groups.now k) [])
    (sym (c.in_ok-key.ensures ∙ ap (λ (a : Row). picked_row c.args.keys.now a [])
    c.values.ensures))
    ∙ ap (λ (o : Option Relation). unwrap_or o [])
    (sym c.get.ensures.value ∙ ap option_copied c.in-Some.is) in
    on_ok_weaker c.append_joined.result
    (λ q. q ∙ ap (λ (rows : Relation). c.args.made.now.items
    ++ filter (meets c.args.own.now (test c.args.cond.now))
    (map (picked_row c.args.sources.now c.args.row.now) rows)) (c.rows.ensures ∙ sym here))
    c.append_joined.ensures

pub returns : goal.returns
returns c =
    let here : unwrap_or (get row_cmp c.args.groups.now
    (picked_row c.args.keys.now c.args.row.now [])) [] ≡ [] =
    ap (λ (k : Row). unwrap_or (get row_cmp c.args.groups.now k) [])
    (sym (c.in_ok-key.ensures ∙ ap (λ (a : Row). picked_row c.args.keys.now a [])
    c.values.ensures))
    ∙ ap (λ (o : Option Relation). unwrap_or o [])
    (sym c.get.ensures.value ∙ ap option_copied c.in-None.is) in
    sym (append-nil c.args.made.now.items)
    ∙ ap (λ (rows : Relation). c.args.made.now.items
    ++ filter (meets c.args.own.now (test c.args.cond.now))
    (map (picked_row c.args.sources.now c.args.row.now) rows)) (sym here)
