use Rattle.std.proofs.Common.{ℕ, List, map}
use Rattle.prima_base.specs.Columns.{names_of}
use Rattle.cond_expr.specs.Seen.{test}
use Rattle.smo_ops_spec.specs.Preconditions.{among}
use Rattle.piece_ir_spec.specs.OperatorViews.{in_both}
use Rattle.rewrite_rules.proofs.PairSteps.{among_names, names_more}
use Rattle.rewrite_rules.proofs.pair.common_parts.Goals as goal

pub loop-name-preserved : goal.loop-name-preserved
loop-name-preserved c = names_more in_both (λ (n : List ℕ). among n (names_of c.args.second.now))
    c.args.first.now c.loop-name.name-index c.loop-name-item.result c.has_name.result
    (map test c.loop-name.tests.items) (map test c.push_common.new.tests.items)
    c.loop-name-test.true c.loop-name-item.is
    (among_names c.loop-name-item.result.0 c.args.second.now c.has_name.result c.has_name.ensures)
    c.loop-name.invariant c.in_ok-push_common.ensures
