use Rattle.std.proofs.Common.{map, refl, sym, ap, ◌∙◌}
use Rattle.prima_base.specs.Order.{shown}
use Rattle.cond_expr.specs.Rows.{flat}
use Rattle.cond_expr.specs.Seen.{tree}
use Rattle.cond_expr.specs.Values.{value}
use Rattle.smo_ops.proofs.EffectLaws.{borrowed_cells, set_here, set_later}
use Rattle.smo_ops.proofs.effect.set_value.Goals as goal

pub returns-then-eq-clause-value : goal.returns-then-eq-clause-value
returns-then-eq-clause-value c = λ columns atoms.
    c.in_ok-val.ensures.value
    ∙ ap (λ at. value at (tree c.loop-column-item.result.1))
    (ap (λ a. flat a c.args.values.now) atoms
    ∙ borrowed_cells columns c.args.values.now (map shown c.args.values.now) refl)
    ∙ sym (c.loop-column.invariant columns
    ∙ set_here columns (map shown c.args.values.now) c.args.sets.now c.args.name.now
    c.loop-column.column-index c.loop-column-item.result c.loop-column-test.true
    c.loop-column-item.is c.if-eq.ensures)

pub loop-column-preserved : goal.loop-column-preserved
loop-column-preserved c = λ columns.
    c.loop-column.invariant columns
    ∙ set_later columns (map shown c.args.values.now) c.args.sets.now c.args.name.now
    c.loop-column.column-index c.loop-column-item.result c.loop-column-test.true
    c.loop-column-item.is c.if-eq.ensures
