use Rattle.std.proofs.lemmas.Result.{err_from_is_err_and}
use Rattle.cond_expr.specs.Seen.{tree, test}
use Rattle.command_codec_spec.specs.Reader.{level}
use Rattle.command_codec.proofs.ListSteps.{one_pushed, no_item, all_items}
use Rattle.command_codec.proofs.TreeSteps.{expr_levels, cond_levels}
use Rattle.command_codec.proofs.tree_reader.+reads.Goals as goal

pub expr-returns : goal.expr-returns
expr-returns t c = expr_levels c.args.levels c.args.reader.now.rest.now c.expr_over.result
    c.expr_over.new.reader.rest.now c.if-levels-eq0.false c.expr_over.ensures

pub cond-returns : goal.cond-returns
cond-returns t c = cond_levels c.args.levels c.args.reader.now.rest.now c.cond_over.result
    c.cond_over.new.reader.rest.now c.if-levels-eq0.false c.cond_over.ensures

pub exprs-loop-preserved : goal.exprs-loop-preserved
exprs-loop-preserved t c = one_pushed tree (level c.args.levels).expr c.args.count c.loop.counter
    c.args.reader.now.rest.now c.loop.reader.rest.now c.loop.list.items c.loop.invariant
    c.push.new.self.items c.in_ok-expr.field-0 c.expr.new.reader.rest.now c.in_ok-push.ensures.items
    c.loop-test.true c.in_ok-expr.ensures

pub exprs-returns-in_err-expr : goal.exprs-returns-in_err-expr
exprs-returns-in_err-expr t c =
    let f = err_from_is_err_and c.from_residual.result c.from_residual.ensures.1 in
    rw (f.1, f.2) (no_item (level c.args.levels).expr c.args.count c.loop.counter
    c.args.reader.now.rest.now c.loop.reader.rest.now _ c.loop.invariant c.in_err-expr.field-0.0
    c.expr.new.reader.rest.now c.loop-test.true c.in_err-expr.ensures)

pub exprs-returns : goal.exprs-returns
exprs-returns t c = all_items (level c.args.levels).expr c.args.count c.loop.counter
    c.args.reader.now.rest.now c.loop.reader.rest.now _ c.loop.invariant c.loop-test.false

pub conds-loop-preserved : goal.conds-loop-preserved
conds-loop-preserved t c = one_pushed test (level c.args.levels).cond c.args.count c.loop.counter
    c.args.reader.now.rest.now c.loop.reader.rest.now c.loop.list.items c.loop.invariant
    c.push.new.self.items c.in_ok-cond.field-0 c.cond.new.reader.rest.now c.in_ok-push.ensures.items
    c.loop-test.true c.in_ok-cond.ensures

pub conds-returns-in_err-cond : goal.conds-returns-in_err-cond
conds-returns-in_err-cond t c =
    let f = err_from_is_err_and c.from_residual.result c.from_residual.ensures.1 in
    rw (f.1, f.2) (no_item (level c.args.levels).cond c.args.count c.loop.counter
    c.args.reader.now.rest.now c.loop.reader.rest.now _ c.loop.invariant c.in_err-cond.field-0.0
    c.cond.new.reader.rest.now c.loop-test.true c.in_err-cond.ensures)

pub conds-returns : goal.conds-returns
conds-returns t c = all_items (level c.args.levels).cond c.args.count c.loop.counter
    c.args.reader.now.rest.now c.loop.reader.rest.now _ c.loop.invariant c.loop-test.false
