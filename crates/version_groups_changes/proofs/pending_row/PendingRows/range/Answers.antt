use Rattle.std.proofs.Common.{◌≡◌, ◌<◌, ℕ, List, length, get_or, sym, subst, inl, inr}
use Rattle.std.specs.Map.{keys_of}
use Rattle.cond_expr.specs.Seen.{test}
use Rattle.smo_ops_spec.specs.OneRow.{meets}
use Rattle.version_groups_changes.specs.PendingChanges.{Led, AreLed, HavePendingHits, PendingRange}
use Rattle.version_groups_changes.specs.PendingChanges.{range_hits}
use Rattle.version_groups_changes.proofs.PendingLaws.{as_ascends}
use Rattle.version_groups_changes.proofs.LedRows.{row_hits_are, led_hits_are}
use Rattle.version_groups_changes.proofs.pending_row.PendingRows.range.Goals as goal

pub loop-led-init : goal.loop-led-init
loop-led-init c = λ can.
    let passes = meets c.args.own.now (test c.args.cond.now) in
    let rows = c.self.inside.rows.entries in
    let may = rw (← c.self.view_is) at can in
    rw (← c.self.view_is) (row_hits_are passes c.args.from c.args.to rows
    (as_ascends (keys_of rows) c.len-known.ensures.ordered)
    (λ row i p. (may.low row i p, may.high row i p)))

pub loop-led-preserved : goal.loop-led-preserved
loop-led-preserved c = λ can.
    let passes = meets c.args.own.now (test c.args.cond.now) in
    let rows = c.self.inside.rows.entries in
    let may = rw (← c.self.view_is) at can in
    let w = c.loop-led.invariant can in
    let items = c.self.inside.led.items in
    let led = c.led-item.result in
    let is : led ≡ get_or items c.loop-led.led-index led =
    subst (λ (xs : List Led). led ≡ get_or xs c.loop-led.led-index led)
    c.deref-led-items.ensures.value c.led-item.is in
    let h : c.loop-led.led-index < length items =
    subst (λ (xs : List Led). c.loop-led.led-index < length xs) c.deref-led-items.ensures.value
    c.loop-led-test.true in
    let are : AreLed led.column rows led.rows =
    subst (λ (x : Led). AreLed x.column rows x.rows) (sym is)
    (c.self.invariant c.loop-led.led-index led h) in
    elim c.in_ok-range.ensures.range [
      | inl e ↦ subst (λ (r : PendingRange). HavePendingHits passes c.args.self.now
          (range_hits passes r)) (sym e) w
      | inr p ↦ subst (λ (r : PendingRange). HavePendingHits passes c.args.self.now
          (range_hits passes r)) (sym p.is)
          (rw (← c.self.view_is)
          (led_hits_are passes led.column p.value rows led.rows
          (as_ascends (keys_of rows) c.len-known.ensures.ordered)
          (as_ascends (keys_of led.rows) c.in_ok-range.ensures.ordered) are
          (λ row i q. may.pinned_to row led.column p.value i q p.within p.pins)))
    ]
