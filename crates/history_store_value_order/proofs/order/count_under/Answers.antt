use Rattle.std.proofs.Common.{◌+◌, ◌-◌, ◌/◌, ◌<◌, [], ◌∷◌, arith, sym, ◌∙◌, get_or}
use Rattle.prima_base.specs.Order.{shown}
use Rattle.history_store_value_order.proofs.Places.{in_get}
use Rattle.history_store_value_order.proofs.Marks.{all_under, none_under}
use Rattle.history_store_value_order.proofs.order.count_under.Goals as goal

pub is_under-requires : goal.is_under-requires
is_under-requires c =
    let w = c.halves.invariant in
    let t : c.halves.low < c.halves.high = c.halves-test.true in
    let m : c.halves.low + (c.halves.high - c.halves.low) / 2 < c.halves.high = omega arith in
    rw c.id_at.ensures (c.requires.known (get_or c.args.index.now.ids
    (c.halves.low + (c.halves.high - c.halves.low) / 2) 0)
    (in_get c.args.index.now.ids (c.halves.low + (c.halves.high - c.halves.low) / 2) 0
    (omega (arith, w.inside))))

pub halves-preserved-then-is_under : goal.halves-preserved-then-is_under
halves-preserved-then-is_under c =
    let w = c.halves.invariant in
    let t : c.halves.low < c.halves.high = c.halves-test.true in
    let m : c.halves.low + (c.halves.high - c.halves.low) / 2 < c.halves.high = omega arith in
    record {
      inside = w.inside;
      apart = omega (arith, m);
      below = all_under c.args.column.now.cells c.args.index.now.ids
          (shown c.args.value.now ∷ [], c.args.id) c.requires.rises _ (omega (arith, w.inside))
          (rw c.id_at.ensures at (sym c.is_under.ensures ∙ c.if-is_under.true));
      above = w.above;
    }

pub halves-preserved : goal.halves-preserved
halves-preserved c =
    let w = c.halves.invariant in
    let t : c.halves.low < c.halves.high = c.halves-test.true in
    let m : c.halves.low + (c.halves.high - c.halves.low) / 2 < c.halves.high = omega arith in
    record {
      inside = omega (arith, w.inside);
      apart = omega arith;
      below = w.below;
      above = none_under c.args.column.now.cells c.args.index.now.ids
          (shown c.args.value.now ∷ [], c.args.id) c.requires.rises _
          (rw c.id_at.ensures at (sym c.is_under.ensures ∙ c.if-is_under.false));
    }

pub id_at-requires : goal.id_at-requires
id_at-requires c =
    let w = c.halves.invariant in
    let t : c.halves.low < c.halves.high = c.halves-test.true in
    let m : c.halves.low + (c.halves.high - c.halves.low) / 2 < c.halves.high = omega arith in
    omega (arith, m, w.inside)
