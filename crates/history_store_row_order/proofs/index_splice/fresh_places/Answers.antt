use Rattle.std.proofs.Common.{rules, ◌≡◌, ◌+◌, ◌++◌, [], ◌∷◌, length, length-append, arith}
use Rattle.std.specs.Vec.Iter.{into_iter_items}
use Rattle.std.proofs.lemmas.Grind.{common_steps}
use Rattle.std.proofs.lemmas.List.{nil_from_length}
use Rattle.history_store_row_order.specs.Logs.{cells_of}
use Rattle.history_store_value_order.proofs.Places.{in_get}
use Rattle.history_store_row_order.proofs.Splicing.{no_place, has_place}
use Rattle.history_store_row_order.proofs.Coming.{fresh_first, fresh_passed, fresh_more}
use Rattle.history_store_row_order.proofs.Coming.{fresh_joined}
use Rattle.history_store_row_order.proofs.index_splice.fresh_places.Goals as goal

pub loop-row-init : goal.loop-row-init
loop-row-init c =
    let whole : into_iter_items c.into_iter-row-iterator.result ≡ c.args.rows.items =
    search rules in
    let f = c.requires.few in
    record {
      fresh = rw (whole, c.new-gained.ensures.items, c.new-to.ensures.items)
          (fresh_first (cells_of c.args.columns.now) c.args.live.now.ids c.args.next
          c.args.rows.items c.requires.live_rise c.requires.rows_rise);
      wide = rw whole c.requires.wide;
      few = rw (whole, c.new-gained.ensures.items) (omega (arith, f));
    }

pub place_in-requires-clause-known : goal.place_in-requires-clause-known
place_in-requires-clause-known c = λ id k d h b.
    c.requires.known _ (in_get c.args.live.now.ids id 0 h) k d b

pub loop-row-preserved-in-Ok : goal.loop-row-preserved-in-Ok
loop-row-preserved-in-Ok c =
    let C = cells_of c.args.columns.now in
    let live = c.args.live.now.ids in
    let s = c.in-Some.ensures.steps.0 in
    let f = rw s at c.loop-row.invariant.few in
    let there = has_place C live c.in-Some.row c.in-Ok.field-0 c.in-Ok.ensures.found.0
    c.in-Ok.ensures.found.1 in
    record {
      fresh = fresh_passed C live c.args.next c.args.rows.items c.loop-row.to.items
          c.loop-row.gained.items (into_iter_items c.next.new.self) c.in-Some.row there
          (rw s at c.loop-row.invariant.fresh);
      wide = (rw s at c.loop-row.invariant.wide).1;
      few = omega (arith, f);
    }

pub loop-row-preserved-in-Ok-2 : goal.loop-row-preserved-in-Ok-2
loop-row-preserved-in-Ok-2 c =
    let C = cells_of c.args.columns.now in
    let live = c.args.live.now.ids in
    let s = c.in-Some.ensures.steps.0 in
    let f = rw s at c.loop-row.invariant.few in
    let there = has_place C live c.in-Some.row c.in-Ok.field-0 c.in-Ok.ensures.found.0
    c.in-Ok.ensures.found.1 in
    record {
      fresh = fresh_passed C live c.args.next c.args.rows.items c.loop-row.to.items
          c.loop-row.gained.items (into_iter_items c.next.new.self) c.in-Some.row there
          (rw s at c.loop-row.invariant.fresh);
      wide = (rw s at c.loop-row.invariant.wide).1;
      few = omega (arith, f);
    }

pub loop-row-preserved-in-Ok-3 : goal.loop-row-preserved-in-Ok-3
loop-row-preserved-in-Ok-3 c =
    let C = cells_of c.args.columns.now in
    let live = c.args.live.now.ids in
    let s = c.in-Some.ensures.steps.0 in
    let f = rw s at c.loop-row.invariant.few in
    let there = has_place C live c.in-Some.row c.in-Ok.field-0 c.in-Ok.ensures.found.0
    c.in-Ok.ensures.found.1 in
    record {
      fresh = fresh_passed C live c.args.next c.args.rows.items c.loop-row.to.items
          c.loop-row.gained.items (into_iter_items c.next.new.self) c.in-Some.row there
          (rw s at c.loop-row.invariant.fresh);
      wide = (rw s at c.loop-row.invariant.wide).1;
      few = omega (arith, f);
    }

pub loop-row-preserved : goal.loop-row-preserved
loop-row-preserved c =
    let C = cells_of c.args.columns.now in
    let live = c.args.live.now.ids in
    let to = c.loop-row.to.items in
    let gained = c.loop-row.gained.items in
    let row = c.in-Some.row in
    let at = c.in-Err.at in
    let s = c.in-Some.ensures.steps.0 in
    let f = rw s at c.loop-row.invariant.few in
    let before = c.in-Err.ensures.before in
    let after = c.in-Err.ensures.after in
    let n : c.len.result ≡ length gained = search rules in
    let pushed : c.push.new.self.items ≡ to ++ (at, c.args.next + c.len.result) ∷ [] =
    search rules in
    let more : c.push-in-Err.new.self.items ≡ gained ++ row ∷ [] = search rules in
    let long = length-append gained (row ∷ []) in
    record {
      fresh = rw (pushed, n, more) (fresh_more C live c.args.next c.args.rows.items to gained
          (into_iter_items c.next.new.self) row at (λ i. no_place C live row at i before after)
          (rw s at c.loop-row.invariant.fresh) c.in-Err.ensures.within before after);
      wide = (rw s at c.loop-row.invariant.wide).1;
      few = rw more (omega (arith, f, long));
    }

pub returns-clause-joined : goal.returns-clause-joined
returns-clause-joined c =
    let none : into_iter_items c.loop-row.row-iterator ≡ [] =
    nil_from_length _ (grind (arith, common_steps)) in
    fresh_joined (cells_of c.args.columns.now) c.args.live.now.ids c.args.next c.args.rows.items
    c.loop-row.to.items c.loop-row.gained.items (rw none at c.loop-row.invariant.fresh)
