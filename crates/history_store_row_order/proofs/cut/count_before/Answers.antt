use Rattle.std.proofs.Common.{◌+◌, ◌-◌, ◌/◌, ◌<◌, arith, sym, ◌∙◌, get_or}
use Rattle.history_store_row_order.specs.Logs.{cells_of}
use Rattle.history_store_value_order.proofs.Places.{in_get}
use Rattle.history_store_row_order.proofs.Cutting.{all_before, none_before}
use Rattle.history_store_row_order.proofs.cut.count_before.Goals as goal

pub is_before-requires-clause-known : goal.is_before-requires-clause-known
is_before-requires-clause-known c =
    let w = c.halves.invariant in
    let t : c.halves.low < c.halves.high = c.halves-test.true in
    let m : c.halves.low + (c.halves.high - c.halves.low) / 2 < c.halves.high = omega arith in
    rw c.id_at.ensures (c.requires.known (get_or c.args.live.now.ids
    (c.halves.low + (c.halves.high - c.halves.low) / 2) 0)
    (in_get c.args.live.now.ids (c.halves.low + (c.halves.high - c.halves.low) / 2) 0
    (omega (arith, w.inside))))

pub halves-preserved-then-is_before : goal.halves-preserved-then-is_before
halves-preserved-then-is_before c =
    let w = c.halves.invariant in
    let t : c.halves.low < c.halves.high = c.halves-test.true in
    let m : c.halves.low + (c.halves.high - c.halves.low) / 2 < c.halves.high = omega arith in
    record {
      inside = w.inside;
      apart = omega (arith, m);
      below = all_before c.args.cut.now (cells_of c.args.columns.now) c.args.live.now.ids _
          c.requires.live_rise (omega (arith, w.inside))
          (rw c.id_at.ensures at (sym c.is_before.ensures ∙ c.if-is_before.true));
      above = w.above;
    }

pub halves-preserved : goal.halves-preserved
halves-preserved c =
    let w = c.halves.invariant in
    let t : c.halves.low < c.halves.high = c.halves-test.true in
    let m : c.halves.low + (c.halves.high - c.halves.low) / 2 < c.halves.high = omega arith in
    record {
      inside = omega (arith, w.inside);
      apart = omega arith;
      below = w.below;
      above = none_before c.args.cut.now (cells_of c.args.columns.now) c.args.live.now.ids _
          c.requires.live_rise (rw c.id_at.ensures at
          (sym c.is_before.ensures ∙ c.if-is_before.false));
    }

pub id_at-requires : goal.id_at-requires
id_at-requires c =
    let w = c.halves.invariant in
    let t : c.halves.low < c.halves.high = c.halves-test.true in
    let m : c.halves.low + (c.halves.high - c.halves.low) / 2 < c.halves.high = omega arith in
    omega (arith, m, w.inside)
