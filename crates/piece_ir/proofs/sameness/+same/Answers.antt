use Rattle.piece_ir.proofs.SameLaws.{trees_end, tests_end}
use Rattle.piece_ir.proofs.sameness.+same.Goals as goal

pub same_conds-returns : goal.same_conds-returns
same_conds-returns t c = tests_end c.args.a.now c.args.b.now c.loop-one.others.now
    c.loop-one.one-index c.is_empty.result c.loop-one-test.false c.loop-one.invariant
    c.is_empty.ensures

pub same_exprs-returns : goal.same_exprs-returns
same_exprs-returns t c = trees_end c.args.a.now c.args.b.now c.loop-one.others.now
    c.loop-one.one-index c.is_empty.result c.loop-one-test.false c.loop-one.invariant
    c.is_empty.ensures
