use Rattle.std.proofs.Common.{◌+◌, ◌-◌, ◌*◌}
use Rattle.command_codec_spec.specs.Reader.{level}
use Rattle.command_codec_checker.proofs.ListSteps.{PassesMany}
use Rattle.command_codec_checker.proofs.tree.+checks.Given as goal

abbrev pub decreases-check_expr : goal.decreases-check_expr
decreases-check_expr l = 4 * l.levels

abbrev pub decreases-check_expr_over : goal.decreases-check_expr_over
decreases-check_expr_over l = 4 * l.levels + 3

abbrev pub decreases-check_concat : goal.decreases-check_concat
decreases-check_concat l = 4 * l.levels + 2

abbrev pub decreases-check_case : goal.decreases-check_case
decreases-check_case l = 4 * l.levels + 2

abbrev pub decreases-check_exprs : goal.decreases-check_exprs
decreases-check_exprs l = 4 * l.levels + 1

abbrev pub decreases-check_cond : goal.decreases-check_cond
decreases-check_cond l = 4 * l.levels

abbrev pub decreases-check_cond_over : goal.decreases-check_cond_over
decreases-check_cond_over l = 4 * l.levels + 3

abbrev pub decreases-check_comparison : goal.decreases-check_comparison
decreases-check_comparison l = 4 * l.levels + 2

abbrev pub decreases-check_parts : goal.decreases-check_parts
decreases-check_parts l = 4 * l.levels + 2

abbrev pub decreases-check_conds : goal.decreases-check_conds
decreases-check_conds l = 4 * l.levels + 1

abbrev pub invariant-check_exprs-loop : goal.invariant-check_exprs-loop
invariant-check_exprs-loop l = PassesMany (level l.levels).expr l.count (l.count - l.counter)
    l.fn.reader.rest.now l.reader.rest.now

abbrev pub invariant-check_conds-loop : goal.invariant-check_conds-loop
invariant-check_conds-loop l = PassesMany (level l.levels).cond l.count (l.count - l.counter)
    l.fn.reader.rest.now l.reader.rest.now
