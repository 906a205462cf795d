use Rattle.std.proofs.Common.{◌+◌, ◌-◌, ◌*◌, map}
use Rattle.cond_expr.specs.Seen.{tree, test}
use Rattle.command_codec_spec.specs.Reader.{level}
use Rattle.command_codec.proofs.ListSteps.{SoMany}
use Rattle.command_codec.proofs.tree_reader.+reads.Given as goal

abbrev pub decreases-expr : goal.decreases-expr
decreases-expr l = 4 * l.levels

abbrev pub decreases-expr_over : goal.decreases-expr_over
decreases-expr_over l = 4 * l.levels + 3

abbrev pub decreases-length : goal.decreases-length
decreases-length l = 4 * l.levels + 2

abbrev pub decreases-concat : goal.decreases-concat
decreases-concat l = 4 * l.levels + 2

abbrev pub decreases-case : goal.decreases-case
decreases-case l = 4 * l.levels + 2

abbrev pub decreases-exprs : goal.decreases-exprs
decreases-exprs l = 4 * l.levels + 1

abbrev pub decreases-cond : goal.decreases-cond
decreases-cond l = 4 * l.levels

abbrev pub decreases-cond_over : goal.decreases-cond_over
decreases-cond_over l = 4 * l.levels + 3

abbrev pub decreases-comparison : goal.decreases-comparison
decreases-comparison l = 4 * l.levels + 2

abbrev pub decreases-negation : goal.decreases-negation
decreases-negation l = 4 * l.levels + 2

abbrev pub decreases-parts : goal.decreases-parts
decreases-parts l = 4 * l.levels + 2

abbrev pub decreases-conds : goal.decreases-conds
decreases-conds l = 4 * l.levels + 1

abbrev pub invariant-exprs-loop : goal.invariant-exprs-loop
invariant-exprs-loop l = SoMany (level l.levels).expr l.count (l.count - l.counter)
    l.fn.reader.rest.now l.reader.rest.now (map tree l.list.items)

abbrev pub invariant-conds-loop : goal.invariant-conds-loop
invariant-conds-loop l = SoMany (level l.levels).cond l.count (l.count - l.counter)
    l.fn.reader.rest.now l.reader.rest.now (map test l.list.items)
