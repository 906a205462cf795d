use Rattle.std.proofs.Common.{List, drop, sym, subst}
use Rattle.std.specs.Prelude.{◌&&◌}
use Rattle.prima_base.specs.declared.value.Val.{Val}
use Rattle.cond_expr.specs.Rows.{AreValid}
use Rattle.cond_expr.specs.Seen.{test}
use Rattle.smo_ops_spec.specs.OneRow.{meets}
use Rattle.version_groups_changes.proofs.PendingSteps.{all_valid, left_out, no_first}
use Rattle.version_groups_changes.proofs.pending_row.put_pending.Goals as goal

pub row_meets-requires : goal.row_meets-requires
row_meets-requires c = subst (λ (vs : List Val). AreValid vs) (sym c.deref.ensures.value)
    (all_valid c.in_ok-values.values.items c.in_ok-values.ensures.valid)

pub returns-then-not-there : goal.returns-then-not-there
returns-then-not-there c =
    let row = drop c.args.skip c.args.row.now in
    let passes = meets c.args.own.now (test c.args.cond.now) row in
    left_out (c.args.there && passes) c.args.hits.now.items row
    (no_first c.args.there passes c.if-not-there.true)
