use Rattle.std.proofs.Common.{◌++◌, take, sym, ap, ◌∙◌}
use Rattle.prima_base.specs.declared.value.Value.{Value}
use Rattle.prima_base.specs.Order.{bytes_of}
use Rattle.cond_expr.specs.Rows.{flat}
use Rattle.cond_expr.proofs.TextLaws.{joined_more, joined_whole}
use Rattle.cond_expr.proofs.evaluation.+eval.Goals as goal

pub join-loop-part-preserved : goal.join-loop-part-preserved
join-loop-part-preserved t c = record {
  value = c.loop-part.invariant.value
      ∙ joined_more (flat c.args.columns.now c.args.values.now) 4096 c.args.parts.now
      c.loop-part.part-index c.part-item.result
      c.loop-part.joined.items c.append.new.joined.items c.loop-part-test.true c.part-item.is
      (c.in_ok-append.ensures.bytes ∙ ap (λ (v : Value).
      take 4096 (c.loop-part.joined.items ++ bytes_of v)) c.in_ok-v.ensures.value);
  valid = c.in_ok-append.ensures.text;
}

pub join-returns-clause-value : goal.join-returns-clause-value
join-returns-clause-value t c =
    c.owning.ensures ∙ sym (c.loop-part.invariant.value
    ∙ joined_whole (flat c.args.columns.now c.args.values.now) 4096 c.args.parts.now
    c.loop-part.part-index
    c.loop-part.joined.items c.loop-part-test.false c.loop-part.invariant.valid.0)
