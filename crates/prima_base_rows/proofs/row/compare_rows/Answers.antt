use Rattle.std.proofs.Common.{arith, sym, ◌∙◌}
use Rattle.prima_base.specs.Order.{value_cmp}
use Rattle.prima_base.proofs.Vals.{lengths_decide}
use Rattle.prima_base_rows.proofs.row.compare_rows.Goals as goal

pub returns : goal.returns
returns c = (rw (c.len-3.ensures, c.len-4.ensures) at c.cmp.ensures)
    ∙ sym (lengths_decide value_cmp c.args.row.now c.args.other.now c.loop-k.k (grind arith))
    ∙ c.loop-k.invariant
