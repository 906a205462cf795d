use Rattle.std.proofs.Common.{rules, ◌≡◌, ◌+◌, ◌-◌, ◌++◌, [], ◌∷◌, length, drop, arith, sym}
use Rattle.std.proofs.Common.{subst}
use Rattle.std.proofs.lemmas.Grind.{common_steps}
use Rattle.std.proofs.Math.ListN.{drop_of_length-le}
use Rattle.history_store_row_order.specs.Logs.{cells_of}
use Rattle.history_store_row_order.specs.Rows.{AllWidth}
use Rattle.relations_spec.specs.Sets.{In}
use Rattle.history_store_value_order.proofs.Places.{in_get}
use Rattle.history_store_row_order.proofs.SideBySide.{taken}
use Rattle.history_store_row_order.proofs.Places.{ArePlaces, places_first, not_below, places_next}
use Rattle.history_store_row_order.proofs.Places.{places_all}
use Rattle.history_store_row_order.proofs.index_splice.lost_places.Goals as goal

pub found_in-at-requires-clause-there : goal.found_in-at-requires-clause-there
found_in-at-requires-clause-there c =
    let lost = c.args.lost.now in
    c.requires.there c.row-item.result (subst (λ r. In r lost) (sym c.row-item.is)
    (in_get lost c.loop-row.row-index c.row-item.result c.loop-row-test.true))

pub overflow_sub-at : goal.overflow_sub-at
overflow_sub-at c =
    let C = cells_of c.args.columns.now in
    let at = c.found_in-at.result in
    let row = c.row-item.result in
    let later = drop (c.loop-row.row-index + 1) c.args.lost.now in
    let e : drop c.loop-row.row-index c.args.lost.now ≡ row ∷ later =
    taken c.args.lost.now c.loop-row.row-index row c.loop-row-test.true c.row-item.is in
    let p = subst (ArePlaces C c.args.live.now.ids c.loop-row.found.items c.loop-row.from.items
    c.args.lost.now) e c.loop-row.invariant.places in
    let gone : c.len-gone.result ≡ length c.loop-row.from.items = search rules in
    let b = not_below C c.args.live.now.ids c.loop-row.found.items c.loop-row.from.items
    c.args.lost.now later row at c.requires.live_rise p c.found_in-at.ensures.within
    c.found_in-at.ensures.row in
    omega (arith, gone, b)

pub loop-row-preserved : goal.loop-row-preserved
loop-row-preserved c =
    let w = c.loop-row.invariant in
    let C = cells_of c.args.columns.now in
    let live = c.args.live.now.ids in
    let at = c.found_in-at.result in
    let row = c.row-item.result in
    let later = drop (c.loop-row.row-index + 1) c.args.lost.now in
    let e : drop c.loop-row.row-index c.args.lost.now ≡ row ∷ later =
    taken c.args.lost.now c.loop-row.row-index row c.loop-row-test.true c.row-item.is in
    let p = subst (ArePlaces C live c.loop-row.found.items c.loop-row.from.items c.args.lost.now) e
    w.places in
    let next = places_next C live c.loop-row.found.items c.loop-row.from.items c.args.lost.now later
    row at c.requires.live_rise p c.found_in-at.ensures.within c.found_in-at.ensures.row in
    let gone : c.len-gone.result ≡ length c.loop-row.from.items = search rules in
    let from : c.push.new.self.items ≡ c.loop-row.from.items ++ (at - c.len-gone.result) ∷ [] =
    search rules in
    let found : c.push-in-loop-row.new.self.items ≡ c.loop-row.found.items ++ c.id_at.result ∷ [] =
    search rules in
    let wide : AllWidth (length c.args.columns.now) (row ∷ later) =
    subst (AllWidth (length c.args.columns.now)) e w.wide in
    record { places = rw (found, from, gone, c.id_at.ensures) next; wide = wide.1 }

pub returns : goal.returns
returns c =
    let e : drop c.loop-row.row-index c.args.lost.now ≡ [] =
    drop_of_length-le c.args.lost.now (grind (arith, common_steps)) in
    let p = subst (ArePlaces (cells_of c.args.columns.now) c.args.live.now.ids
    c.loop-row.found.items c.loop-row.from.items c.args.lost.now) e
    c.loop-row.invariant.places in
    record {
      split = places_all (cells_of c.args.columns.now) c.args.live.now.ids
          c.loop-row.found.items c.loop-row.from.items c.args.lost.now p;
      placed = p.placed;
    }

pub loop-row-init : goal.loop-row-init
loop-row-init c =
    let found : c.in_ok-found.found.items ≡ [] = search rules in
    let from : c.in_ok-from.from.items ≡ [] = search rules in
    record {
      places = rw (found, from) (places_first (cells_of c.args.columns.now) c.args.live.now.ids
          c.args.lost.now c.requires.live_rise c.requires.lost_rise c.requires.there);
      wide = c.requires.wide;
    }
