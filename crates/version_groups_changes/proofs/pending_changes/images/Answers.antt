use Rattle.std.proofs.Common.{◌≡◌, List, [], ◌∷◌, ◌++◌, map, take, sym, ap, subst, ◌∙◌}
use Rattle.std.proofs.lemmas.List.{map_more}
use Rattle.relations_spec.specs.Sets.{In}
use Rattle.prima_base.specs.Columns.{IsRow}
use Rattle.prima_base.specs.Order.{shown}
use Rattle.smo_ops_types.specs.Changes.{sets_of}
use Rattle.smo_ops_spec.specs.OneRow.{Row, with_sets}
use Rattle.version_groups_changes.proofs.PendingSteps.{all_valid, in_get}
use Rattle.version_groups_changes.proofs.pending_changes.images.Goals as goal

pub row_with_sets-requires-clause-valid : goal.row_with_sets-requires-clause-valid
row_with_sets-requires-clause-valid c = all_valid c.in_ok-values.values.items
    c.in_ok-values.ensures.valid

pub loop-row-preserved : goal.loop-row-preserved
loop-row-preserved c = λ fits.
    let i = c.loop-row.row-index in
    let rows = c.args.rows.now in
    let row : Row = c.row-item.result in
    let made = with_sets c.args.own.now (sets_of c.args.sets.now) in
    let here : IsRow c.args.own.now row = fits row
    (subst (λ (r : Row). In r rows) (sym c.row-item.is)
    (in_get rows i row c.loop-row-test.true)) in
    let same : map shown c.in_ok-values.values.items ≡ row = c.in_ok-values.ensures.values in
    let is : map shown c.in_ok-image.image.items ≡ made row =
    c.in_ok-image.ensures.row (subst (IsRow c.args.own.now) (sym same) here) ∙ ap made same in
    c.in_ok-push.ensures.items
    ∙ ap (λ (l : List Row). l ++ c.of.result ∷ []) (c.loop-row.invariant fits)
    ∙ ap (λ (r : Row). map made (take i rows) ++ r ∷ []) (c.of.ensures ∙ is ∙ ap made c.row-item.is)
    ∙ sym (map_more made rows i row c.loop-row-test.true)
