use Rattle.std.proofs.Common.{sym, ap, ◌∙◌}
use Rattle.std.specs.Ordering.{is_eq}
use Rattle.std.specs.BTreeMap.{get}
use Rattle.prima_base.specs.Order.{row_cmp}
use Rattle.join_exec_spec.specs.Keeping.{in_group}
use Rattle.join_exec_spec.proofs.Groups.{row_same, put_in_group}
use Rattle.join_exec_levels.proofs.group.put_row.Goals as goal

pub returns-in_ok-insert-in-Some : goal.returns-in_ok-insert-in-Some
returns-in_ok-insert-in-Some c = λ other. put_in_group (is_eq (row_cmp c.args.key other))
    (get row_cmp c.args.groups.now other) (get row_cmp c.remove.new.self other)
    (get row_cmp c.insert.new.self other) c.in-Some.group c.push.new.self c.args.row
    (λ e. ap in_group (ap (get row_cmp c.args.groups.now) (sym (row_same c.args.key other e))
    ∙ sym c.remove.ensures.value ∙ c.in-Some.is))
    (c.remove.ensures.updates.0 other)
    c.in_ok-push-in-Some.ensures
    (c.in_ok-insert-in-Some.ensures.updates.0 other)
