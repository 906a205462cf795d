use Rattle.cond_expr.proofs.ValidLaws.{shown_more, valid_more, borrowed_more}
use Rattle.cond_expr.proofs.borrowed.lend_row.Goals as goal

pub loop-value-preserved : goal.loop-value-preserved
loop-value-preserved c = record {
  values = shown_more c.args.row.now c.loop-value.value-index c.value-item.result
      c.loop-value.borrowed.items c.lend.result c.push.new.self.items
      c.loop-value-test.true c.value-item.is c.loop-value.invariant.values c.lend.ensures.value
      c.in_ok-push.ensures.items;
  valid = valid_more c.loop-value.borrowed.items c.lend.result c.push.new.self.items
      c.loop-value.invariant.valid c.lend.ensures.valid c.in_ok-push.ensures.items;
  borrowed = borrowed_more c.loop-value.borrowed.items c.lend.result c.push.new.self.items
      c.loop-value.invariant.borrowed c.lend.ensures.borrowed c.in_ok-push.ensures.items;
}
