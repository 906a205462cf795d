use Rattle.std.proofs.Common.{◌≡◌, length, refl, arith, ap, ◌∙◌}
use Rattle.history_store_row_order.specs.Logs.{cells_of}
use Rattle.history_store_row_order.proofs.SideBySide.{given_after, length-owners}
use Rattle.history_store_row_order.proofs.change.find_change.Goals as goal

pub find_difference-requires-clause-known : goal.find_difference-requires-clause-known
find_difference-requires-clause-known c = rw (c.deref.ensures.value, c.in_ok-copy.ensures)
    c.requires.known

pub find_difference-requires-clause-live_rise : goal.find_difference-requires-clause-live_rise
find_difference-requires-clause-live_rise c =
    rw (c.deref.ensures.value, c.in_ok-copy.ensures) c.requires.live_rise

pub next_ids-requires : goal.next_ids-requires
next_ids-requires c =
    let e : length c.deref-2.result.now ≡ length c.args.rows.now =
    ap length (c.deref-2.ensures.value ∙ c.in_ok-lost.ensures.owners)
    ∙ length-owners (cells_of c.args.columns.now) c.deref.result.now c.args.rows.now in
    let few = c.requires.few in
    omega (arith, e, few)

pub returns-clause-lost : goal.returns-clause-lost
returns-clause-lost c = rw (c.in_ok-lost.ensures.lost, c.deref.ensures.value, c.in_ok-copy.ensures)
    refl

pub returns-clause-gained : goal.returns-clause-gained
returns-clause-gained c = rw (
  c.in_ok-lost.ensures.gained,
  c.deref.ensures.value,
  c.in_ok-copy.ensures,
) refl

pub returns-clause-after : goal.returns-clause-after
returns-clause-after c =
    let a = given_after (cells_of c.args.columns.now) c.args.live.now.ids in
    rw (
      c.in_ok-of.ensures,
      c.deref-4.ensures.value,
      c.in_ok-ids.ensures,
      c.deref-2.ensures.value,
      c.deref-3.ensures.value,
      c.in_ok-lost.ensures.owners,
      c.in_ok-lost.ensures.lost,
      c.deref.ensures.value,
      c.in_ok-copy.ensures,
      a,
    ) refl
