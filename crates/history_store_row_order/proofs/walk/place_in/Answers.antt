use Rattle.std.proofs.Common.{◌+◌, ◌-◌, ◌/◌, ◌<◌, arith, sym, ◌∙◌}
use Rattle.history_store_row_order.specs.Logs.{cells_of}
use Rattle.history_store_row_order.proofs.SideBySide.{all_less, all_greater}
use Rattle.history_store_row_order.proofs.walk.place_in.Goals as goal

pub halves-preserved-in-Less : goal.halves-preserved-in-Less
halves-preserved-in-Less c =
    let w = c.halves.invariant in
    let t : c.halves.low < c.halves.high = c.halves-test.true in
    let m : c.halves.low + (c.halves.high - c.halves.low) / 2 < c.halves.high = omega arith in
    let e = rw c.id_at.ensures at (sym c.compare_now.ensures ∙ c.in-Less.is) in
    record {
      inside = w.inside;
      apart = omega (arith, m);
      below = all_less (cells_of c.args.columns.now) c.args.live.now.ids c.args.row.now _
          c.requires.live_rise (omega (arith, w.inside)) e;
      above = w.above;
    }

pub halves-preserved : goal.halves-preserved
halves-preserved c =
    let w = c.halves.invariant in
    let t : c.halves.low < c.halves.high = c.halves-test.true in
    let m : c.halves.low + (c.halves.high - c.halves.low) / 2 < c.halves.high = omega arith in
    let e = rw c.id_at.ensures at (sym c.compare_now.ensures ∙ c.in-Greater.is) in
    record {
      inside = omega (arith, w.inside);
      apart = omega arith;
      below = w.below;
      above = all_greater (cells_of c.args.columns.now) c.args.live.now.ids c.args.row.now _
          c.requires.live_rise e;
    }

pub id_at-requires : goal.id_at-requires
id_at-requires c =
    let w = c.halves.invariant in
    let t : c.halves.low < c.halves.high = c.halves-test.true in
    let m : c.halves.low + (c.halves.high - c.halves.low) / 2 < c.halves.high = omega arith in
    omega (arith, m, w.inside)

pub compare_now-requires-clause-known : goal.compare_now-requires-clause-known
compare_now-requires-clause-known c = λ k d h.
    let w = c.halves.invariant in
    let t : c.halves.low < c.halves.high = c.halves-test.true in
    let m : c.halves.low + (c.halves.high - c.halves.low) / 2 < c.halves.high = omega arith in
    rw c.id_at.ensures (c.requires.known (c.halves.low + (c.halves.high - c.halves.low) / 2) k d
    (omega (arith, m, w.inside)) h)
