use Rattle.std.proofs.Common.{sym, ◌∙◌}
use Rattle.smo_ops.proofs.EffectLaws.{given_here, given_later}
use Rattle.smo_ops.proofs.effect.given_value.Goals as goal

pub returns-then-eq-clause-value : goal.returns-then-eq-clause-value
returns-then-eq-clause-value c =
    c.lend.ensures.value ∙ sym (c.loop-column.invariant
    ∙ given_here c.args.cells.now c.args.name.now c.loop-column.column-index
    c.loop-column-item.result c.loop-column-test.true c.loop-column-item.is c.if-eq.ensures)

pub loop-column-preserved : goal.loop-column-preserved
loop-column-preserved c =
    c.loop-column.invariant
    ∙ given_later c.args.cells.now c.args.name.now c.loop-column.column-index
    c.loop-column-item.result c.loop-column-test.true c.loop-column-item.is c.if-eq.ensures
