use Rattle.std.proofs.Common.{[], sym, ap, ◌∙◌}
use Rattle.std.specs.Prelude.{cond, Some, Option}
use Rattle.std.specs.Option.{unwrap_or}
use Rattle.std.specs.Ordering.{is_eq}
use Rattle.std.specs.BTreeMap.{get}
use Rattle.prima_base.specs.Order.{row_cmp}
use Rattle.smo_ops_spec.specs.OneRow.{Relation}
use Rattle.smo_maps.proofs.GroupLaws.{row_same, put_in_group}
use Rattle.smo_maps.proofs.group.put_row.Goals as goal

pub returns-in_ok-insert-in-Some : goal.returns-in_ok-insert-in-Some
returns-in_ok-insert-in-Some c = λ other. put_in_group (is_eq (row_cmp c.args.key other))
    (get row_cmp c.args.groups.now other) (get row_cmp c.remove.new.self other)
    (get row_cmp c.insert.new.self other) c.in-Some.group c.args.row.now
    (λ e. ap (λ (o : Option Relation). unwrap_or o [])
    (ap (get row_cmp c.args.groups.now) (sym (row_same c.args.key other e))
    ∙ sym c.remove.ensures.value ∙ c.in-Some.is))
    (c.remove.ensures.updates.0 other)
    (c.in_ok-insert-in-Some.ensures.updates.0 other
    ∙ ap (λ (g : Relation). cond (is_eq (row_cmp c.args.key other)) (Some g)
    (get row_cmp c.remove.new.self other)) c.in_ok-push-in-Some.ensures)
