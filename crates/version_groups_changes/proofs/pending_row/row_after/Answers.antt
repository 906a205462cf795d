use Rattle.std.proofs.Common.{◌≡◌, [], ◌∷◌, ◌++◌, List, Some, map, sym, ap, ◌∙◌}
use Rattle.prima_base.specs.declared.value.Value.{Value}
use Rattle.prima_base.specs.declared.value.Val.{Val}
use Rattle.prima_base.specs.Order.{shown}
use Rattle.version_groups_changes.specs.PendingChanges.{led_by}
use Rattle.version_groups_changes.proofs.RowValues.{one_at}
use Rattle.version_groups_changes.proofs.pending_row.row_after.Goals as goal

pub returns : goal.returns
returns c =
    let row = c.args.row.now in
    let v = shown c.in_ok-copy_value.field-0 in
    let first : map shown c.push.new.self.items ≡ v ∷ [] =
    ap (map shown) (c.in_ok-push.ensures.items
    ∙ ap (λ (vs : List Val). vs ++ c.in_ok-copy_value.field-0 ∷ [])
    c.in_ok-values.ensures.items) in
    ap Some (c.of.ensures ∙ c.in_ok-put_values.ensures.values
    ∙ ap (λ (l : List Value). l ++ row) first)
    ∙ sym (ap (λ (vs : List Value). led_by vs row)
    (one_at c.args.column row v c.requires c.in_ok-copy_value.ensures.value))
