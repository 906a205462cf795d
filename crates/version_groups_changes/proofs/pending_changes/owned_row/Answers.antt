use Rattle.std.proofs.Common.{sym, subst}
use Rattle.prima_base.specs.declared.value.Value.{Value}
use Rattle.cond_expr.specs.Rows.{IsValid}
use Rattle.version_groups_changes.proofs.PendingSteps.{valid_at}
use Rattle.version_groups_changes.proofs.pending_changes.owned_row.Goals as goal

pub into_value-requires : goal.into_value-requires
into_value-requires c = subst (λ (v : Value). IsValid v) (sym c.in_ok-copy.ensures.value)
    (valid_at c.args.values.now c.loop-value.value-index c.value-item.result c.requires
    c.loop-value-test.true c.value-item.is)
