use Rattle.std.proofs.Common.{map}
use Rattle.prima_base.specs.Order.{shown, is_borrowed}
use Rattle.join_exec_spec.proofs.BorrowedLaws.{copied_step}
use Rattle.join_exec_levels.proofs.step.append.Goals as goal

pub loop-value-preserved : goal.loop-value-preserved
loop-value-preserved c = record {
  values = copied_step shown c.args.values.now c.loop-value.value-index c.value-item.result
      c.in_ok-copy.field-0 c.loop-value.into.items c.push.new.self.items
      (map shown c.args.into.now.items) c.loop-value-test.true c.value-item.is
      c.loop-value.invariant.values c.in_ok-copy.ensures.value c.in_ok-push.ensures.items;
  same = copied_step is_borrowed c.args.values.now c.loop-value.value-index c.value-item.result
      c.in_ok-copy.field-0 c.loop-value.into.items c.push.new.self.items
      (map is_borrowed c.args.into.now.items) c.loop-value-test.true c.value-item.is
      c.loop-value.invariant.same c.in_ok-copy.ensures.same c.in_ok-push.ensures.items;
}
