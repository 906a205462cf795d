use Rattle.std.proofs.Common.{nat_lt}
use Rattle.std.proofs.lemmas.Result.{err_from_is_err_and}
use Rattle.cond_expr.specs.Seen.{trees_of}
use Rattle.cond_expr.specs.Trees.{joined}
use Rattle.command_codec_spec.specs.Reading.{pair, digits, items, list_parser}
use Rattle.command_codec_spec.specs.Reader.{sign, level, most_parts}
use Rattle.command_codec_spec.specs.Reader.{chosen, comparison}
use Rattle.command_codec_checker.proofs.Steps.{first_halts, after, mapped, mapped_halts, paired}
use Rattle.command_codec_checker.proofs.Steps.{both_pass, first_of_pair_halts, second_of_pair_halts}
use Rattle.command_codec_checker.proofs.ListSteps.{none_passed, one_passed, one_halts, all_passed}
use Rattle.command_codec_checker.proofs.TreeSteps.{expr_levels, cond_levels}
use Rattle.command_codec_checker.proofs.tree.+checks.Goals as goal

pub check_exprs-loop-init : goal.check_exprs-loop-init
check_exprs-loop-init t c = none_passed (level c.args.levels).expr c.args.count
    c.args.reader.now.rest.now

pub check_exprs-loop-preserved : goal.check_exprs-loop-preserved
check_exprs-loop-preserved t c = one_passed (level c.args.levels).expr c.args.count c.loop.counter
    c.args.reader.now.rest.now c.loop.reader.rest.now c.loop.invariant
    c.check_expr.new.reader.rest.now c.loop-test.true c.in_ok-check_expr.ensures

pub check_exprs-returns-in_err-check_expr : goal.check_exprs-returns-in_err-check_expr
check_exprs-returns-in_err-check_expr t c =
    let f = err_from_is_err_and c.from_residual.result c.from_residual.ensures.1 in
    rw f.1 (one_halts (level c.args.levels).expr c.args.count c.loop.counter
    c.args.reader.now.rest.now c.loop.reader.rest.now c.loop.invariant
    c.in_err-check_expr.field-0.0 c.check_expr.new.reader.rest.now c.loop-test.true
    c.in_err-check_expr.ensures)

pub check_exprs-returns : goal.check_exprs-returns
check_exprs-returns t c = all_passed (level c.args.levels).expr c.args.count c.loop.counter
    c.args.reader.now.rest.now c.loop.reader.rest.now c.loop.invariant c.loop-test.false

pub check_conds-loop-init : goal.check_conds-loop-init
check_conds-loop-init t c = none_passed (level c.args.levels).cond c.args.count
    c.args.reader.now.rest.now

pub check_conds-loop-preserved : goal.check_conds-loop-preserved
check_conds-loop-preserved t c = one_passed (level c.args.levels).cond c.args.count c.loop.counter
    c.args.reader.now.rest.now c.loop.reader.rest.now c.loop.invariant
    c.check_cond.new.reader.rest.now c.loop-test.true c.in_ok-check_cond.ensures

pub check_conds-returns-in_err-check_cond : goal.check_conds-returns-in_err-check_cond
check_conds-returns-in_err-check_cond t c =
    let f = err_from_is_err_and c.from_residual.result c.from_residual.ensures.1 in
    rw f.1 (one_halts (level c.args.levels).cond c.args.count c.loop.counter
    c.args.reader.now.rest.now c.loop.reader.rest.now c.loop.invariant
    c.in_err-check_cond.field-0.0 c.check_cond.new.reader.rest.now c.loop-test.true
    c.in_err-check_cond.ensures)

pub check_conds-returns : goal.check_conds-returns
check_conds-returns t c = all_passed (level c.args.levels).cond c.args.count c.loop.counter
    c.args.reader.now.rest.now c.loop.reader.rest.now c.loop.invariant c.loop-test.false

pub check_concat-returns-in_err-count : goal.check_concat-returns-in_err-count
check_concat-returns-in_err-count t c =
    let f = err_from_is_err_and c.from_residual.result c.from_residual.ensures.1 in
    rw f.1 (mapped_halts (λ l. joined (trees_of l))
    (list_parser 1 (most_parts (nat_lt 0 c.args.levels) 255) (level c.args.levels).expr)
    c.args.reader.now.rest.now c.in_err-count.field-0.0 c.part_count.new.reader.rest.now
    (first_halts (digits (most_parts (nat_lt 0 c.args.levels) 255) 1 0)
    (λ n. items (level c.args.levels).expr n) c.args.reader.now.rest.now
    c.in_err-count.field-0.0 c.part_count.new.reader.rest.now c.in_err-count.ensures))

pub check_concat-returns : goal.check_concat-returns
check_concat-returns t c = mapped (λ l. joined (trees_of l))
    (list_parser 1 (most_parts (nat_lt 0 c.args.levels) 255) (level c.args.levels).expr)
    c.args.reader.now.rest.now c.check_exprs.result c.check_exprs.new.reader.rest.now
    (after (digits (most_parts (nat_lt 0 c.args.levels) 255) 1 0)
    (λ n. items (level c.args.levels).expr n) c.args.reader.now.rest.now c.in_ok-count.count
    c.part_count.new.reader.rest.now c.check_exprs.result c.check_exprs.new.reader.rest.now
    c.in_ok-count.ensures c.check_exprs.ensures)

pub check_parts-returns-in_err-count : goal.check_parts-returns-in_err-count
check_parts-returns-in_err-count t c =
    let f = err_from_is_err_and c.from_residual.result c.from_residual.ensures.1 in
    rw f.1 (first_halts (digits (most_parts (nat_lt 0 c.args.levels) 65535) 2 0)
    (λ n. items (level c.args.levels).cond n) c.args.reader.now.rest.now
    c.in_err-count.field-0.0 c.part_count.new.reader.rest.now c.in_err-count.ensures)

pub check_parts-returns : goal.check_parts-returns
check_parts-returns t c = after (digits (most_parts (nat_lt 0 c.args.levels) 65535) 2 0)
    (λ n. items (level c.args.levels).cond n) c.args.reader.now.rest.now c.in_ok-count.count
    c.part_count.new.reader.rest.now c.check_conds.result c.check_conds.new.reader.rest.now
    c.in_ok-count.ensures c.check_conds.ensures

pub check_case-returns-in_err-check_cond : goal.check_case-returns-in_err-check_cond
check_case-returns-in_err-check_cond t c =
    let f = err_from_is_err_and c.from_residual.result c.from_residual.ensures.1 in
    rw f.1 (mapped_halts chosen
    (pair (pair (level c.args.levels).cond (level c.args.levels).expr)
    (level c.args.levels).expr) c.args.reader.now.rest.now c.in_err-check_cond.field-0.0
    c.check_cond.new.reader.rest.now (first_of_pair_halts
    (pair (level c.args.levels).cond (level c.args.levels).expr) (level c.args.levels).expr
    c.args.reader.now.rest.now c.in_err-check_cond.field-0.0 c.check_cond.new.reader.rest.now
    (first_of_pair_halts (level c.args.levels).cond (level c.args.levels).expr
    c.args.reader.now.rest.now c.in_err-check_cond.field-0.0 c.check_cond.new.reader.rest.now
    c.in_err-check_cond.ensures)))

pub check_case-returns-in_err-check_expr : goal.check_case-returns-in_err-check_expr
check_case-returns-in_err-check_expr t c =
    let f = err_from_is_err_and c.from_residual-in_err-check_expr.result
    c.from_residual-in_err-check_expr.ensures.1 in
    rw f.1 (mapped_halts chosen
    (pair (pair (level c.args.levels).cond (level c.args.levels).expr)
    (level c.args.levels).expr) c.args.reader.now.rest.now c.in_err-check_expr.field-0.0
    c.check_expr.new.reader.rest.now (first_of_pair_halts
    (pair (level c.args.levels).cond (level c.args.levels).expr) (level c.args.levels).expr
    c.args.reader.now.rest.now c.in_err-check_expr.field-0.0 c.check_expr.new.reader.rest.now
    (second_of_pair_halts (level c.args.levels).cond (level c.args.levels).expr
    c.args.reader.now.rest.now c.check_cond.new.reader.rest.now c.in_err-check_expr.field-0.0
    c.check_expr.new.reader.rest.now c.in_ok-check_cond.ensures c.in_err-check_expr.ensures)))

pub check_case-returns : goal.check_case-returns
check_case-returns t c = mapped chosen
    (pair (pair (level c.args.levels).cond (level c.args.levels).expr) (level c.args.levels).expr)
    c.args.reader.now.rest.now c.check_expr-2.result c.check_expr-2.new.reader.rest.now
    (paired (pair (level c.args.levels).cond (level c.args.levels).expr) (level c.args.levels).expr
    c.args.reader.now.rest.now c.check_expr.new.reader.rest.now c.check_expr-2.result
    c.check_expr-2.new.reader.rest.now (both_pass (level c.args.levels).cond
    (level c.args.levels).expr c.args.reader.now.rest.now c.check_cond.new.reader.rest.now
    c.check_expr.new.reader.rest.now c.in_ok-check_cond.ensures c.in_ok-check_expr.ensures)
    c.check_expr-2.ensures)

pub check_comparison-returns-in_err-check_sign : goal.check_comparison-returns-in_err-check_sign
check_comparison-returns-in_err-check_sign t c =
    let f = err_from_is_err_and c.from_residual.result c.from_residual.ensures.1 in
    rw f.1 (mapped_halts comparison
    (pair (pair sign (level c.args.levels).expr) (level c.args.levels).expr)
    c.args.reader.now.rest.now c.in_err-check_sign.field-0.0 c.check_sign.new.reader.rest.now
    (first_of_pair_halts (pair sign (level c.args.levels).expr) (level c.args.levels).expr
    c.args.reader.now.rest.now c.in_err-check_sign.field-0.0 c.check_sign.new.reader.rest.now
    (first_of_pair_halts sign (level c.args.levels).expr c.args.reader.now.rest.now
    c.in_err-check_sign.field-0.0 c.check_sign.new.reader.rest.now
    c.in_err-check_sign.ensures)))

pub check_comparison-returns-in_err-check_expr : goal.check_comparison-returns-in_err-check_expr
check_comparison-returns-in_err-check_expr t c =
    let f = err_from_is_err_and c.from_residual-in_err-check_expr.result
    c.from_residual-in_err-check_expr.ensures.1 in
    rw f.1 (mapped_halts comparison
    (pair (pair sign (level c.args.levels).expr) (level c.args.levels).expr)
    c.args.reader.now.rest.now c.in_err-check_expr.field-0.0 c.check_expr.new.reader.rest.now
    (first_of_pair_halts (pair sign (level c.args.levels).expr) (level c.args.levels).expr
    c.args.reader.now.rest.now c.in_err-check_expr.field-0.0 c.check_expr.new.reader.rest.now
    (second_of_pair_halts sign (level c.args.levels).expr c.args.reader.now.rest.now
    c.check_sign.new.reader.rest.now c.in_err-check_expr.field-0.0
    c.check_expr.new.reader.rest.now c.in_ok-check_sign.ensures c.in_err-check_expr.ensures)))

pub check_comparison-returns : goal.check_comparison-returns
check_comparison-returns t c = mapped comparison
    (pair (pair sign (level c.args.levels).expr) (level c.args.levels).expr)
    c.args.reader.now.rest.now c.check_expr-2.result c.check_expr-2.new.reader.rest.now
    (paired (pair sign (level c.args.levels).expr) (level c.args.levels).expr
    c.args.reader.now.rest.now c.check_expr.new.reader.rest.now c.check_expr-2.result
    c.check_expr-2.new.reader.rest.now (both_pass sign (level c.args.levels).expr
    c.args.reader.now.rest.now c.check_sign.new.reader.rest.now c.check_expr.new.reader.rest.now
    c.in_ok-check_sign.ensures c.in_ok-check_expr.ensures) c.check_expr-2.ensures)

pub check_expr-returns : goal.check_expr-returns
check_expr-returns t c = expr_levels c.args.levels c.args.reader.now.rest.now
    c.check_expr_over.result c.check_expr_over.new.reader.rest.now c.if-levels-eq0.false
    c.check_expr_over.ensures

pub check_cond-returns : goal.check_cond-returns
check_cond-returns t c = cond_levels c.args.levels c.args.reader.now.rest.now
    c.check_cond_over.result c.check_cond_over.new.reader.rest.now c.if-levels-eq0.false
    c.check_cond_over.ensures
