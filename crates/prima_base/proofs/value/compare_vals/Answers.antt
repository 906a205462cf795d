use Rattle.std.proofs.Common.{arith, sym, ◌∙◌}
use Rattle.prima_base.specs.Order.{value_cmp, shown}
use Rattle.prima_base.proofs.Vals.{lengths_decide}
use Rattle.prima_base.proofs.value.compare_vals.Goals as goal

pub returns : goal.returns
returns c = c.cmp.ensures ∙ sym (lengths_decide (λ x y. value_cmp (shown x) (shown y)) c.args.a.now
    c.args.b.now c.loop-i.i (grind arith)) ∙ c.loop-i.invariant
