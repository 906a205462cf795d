use Rattle.std.proofs.Common.{map, subst, sym, ap, ◌∙◌, take_all, arith}
use Rattle.std.proofs.lemmas.Simd.{map-map}
use Rattle.prima_base.specs.Order.{shown}
use Rattle.cond_expr.specs.Seen.{tree}
use Rattle.cond_expr.specs.Values.{value}
use Rattle.join_exec_spec.specs.BorrowedOutputs.{StaysBorrowed}
use Rattle.join_exec_spec.proofs.BorrowedLaws.{stays_more}
use Rattle.cond_expr.specs.Rows.{cells}
use Rattle.join_exec_spec.proofs.OneMore.{map_step}
use Rattle.join_exec_levels.proofs.answer.output_row.Goals as goal

pub loop-out-preserved : goal.loop-out-preserved
loop-out-preserved c = record {
  values = map_step (λ e. value (cells c.args.columns.now (map shown c.args.values.now)) (tree e))
      c.args.outs.now c.loop-out.out-index c.out-item.result c.loop-out.row.items
      c.push.new.self.items c.in_ok-eval.field-0
      c.loop-out-test.true c.out-item.is c.loop-out.invariant.values c.in_ok-eval.ensures.value
      c.in_ok-push.ensures.items;
  borrowed = λ which h. stays_more which c.args.columns.now c.args.values.now c.args.outs.now
      c.loop-out.out-index c.out-item.result c.loop-out.row.items c.push.new.self.items
      c.in_ok-eval.field-0 c.loop-out-test.true c.out-item.is h
      (c.loop-out.invariant.borrowed which h)
      c.in_ok-eval.ensures.value c.in_ok-eval.ensures.borrowed c.in_ok-push.ensures.items;
}

pub returns-clause-values : goal.returns-clause-values
returns-clause-values c = c.loop-out.invariant.values
    ∙ ap (map (λ e. value (cells c.args.columns.now (map shown c.args.values.now)) (tree e)))
    (take_all c.loop-out.out-index c.args.outs.now (omega arith))
    ∙ sym (map-map (value (cells c.args.columns.now (map shown c.args.values.now))) tree
    c.args.outs.now)

pub returns-clause-borrowed : goal.returns-clause-borrowed
returns-clause-borrowed c = λ which h.
    subst (λ outs. StaysBorrowed which (map tree outs) c.loop-out.row.items)
    (take_all c.loop-out.out-index c.args.outs.now (omega arith))
    (c.loop-out.invariant.borrowed which h)
