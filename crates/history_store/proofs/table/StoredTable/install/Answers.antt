use Rattle.std.proofs.Common.{rules, ◌≡◌, ◌<◌, ◌≤◌, ℕ, List, [], length, sym, ap, ◌∙◌, subst, arith}
use Rattle.std.proofs.Common.{vec_len, vec_capacity}
use Rattle.std.proofs.lemmas.Grind.{common_steps}
use Rattle.std.proofs.Math.Nat.{le_trans, min-le_left, min-le_right}
use Rattle.relations_spec.specs.Sets.{In}
use Rattle.prima_base.specs.declared.value.Value.{Value}
use Rattle.history_store_row_order.specs.Rows.{AllWidth}
use Rattle.history_store_row_order.specs.Handing.{handed}
use Rattle.history_store_writes.specs.Writing.{keys_handed}
use Rattle.history_store_value_order.specs.ByValue.{Distinct, ids_handed}
use Rattle.history_store_row_order.specs.Indexes.{index_of}
use Rattle.history_store_writes.specs.RowRoom.{rows_room}
use Rattle.history_store_row_order.specs.Logs.{cells_of, few_of}
use Rattle.history_store_writes.specs.Logs.{AreRowsOf}
use Rattle.history_store_writes.specs.ValueIndexes.{indexed_columns, indexed_after, least_room}
use Rattle.history_store_row_order.proofs.Places.{few_placed}
use Rattle.history_store_writes.proofs.Carry.{known, spare_least, spare_each, key_room, index_room}
use Rattle.history_store_writes.proofs.Carry.{few_are_few}
use Rattle.history_store_row_order.proofs.Cutting.{length-rows_of}
use Rattle.history_store_row_order.proofs.Cells.{length-cells_of}
use Rattle.history_store_change_spec.proofs.Showing.{key_before}
use Rattle.history_store_change_spec.proofs.Valid.{is_store}
use Rattle.history_store_change_spec.proofs.Installing.{placed_then, relation_from, prepared_kept}
use Rattle.history_store_change_spec.proofs.Installing.{prepared_cells}
use Rattle.history_store_change_spec.proofs.Installing.{prepared_before, prepared_from}
use Rattle.history_store_change_spec.proofs.Installing.{prepared_later}
use Rattle.history_store_change_spec.proofs.CellCounts.{still_counted}
use Rattle.history_store_change_spec.proofs.ValueTypes.{gained_typed}
use Rattle.history_store_writes.proofs.Others.{same_columns, least_room_below, least_room_each}
use Rattle.history_store_writes.proofs.Others.{ready_each}
use Rattle.history_store_change_spec.proofs.Keeping.{ids_are_handed, all_lost, all_ready, all_new}
use Rattle.history_store_change_spec.proofs.Keeping.{all_fresh}
use Rattle.history_store_change_spec.proofs.Keeping.{all_apart, all_indexed}
use Rattle.history_store_change_spec.proofs.Rule.{key_count}
use Rattle.history_store_change_spec.proofs.Totals.{prepared_written}
use Rattle.history_store.proofs.table.StoredTable.install.Goals as goal

-- the ids that are put into the indexes are those that are handed
given : (others lost : List ℕ) (next n count : ℕ) (gained : List (List Value)) → others ≡ lost
    → next ≡ n → count ≡ length gained → ids_handed others next count ≡ handed lost n gained
given others lost next n count gained a b c = ap (λ ids. ids_handed ids next count) a
    ∙ ap (λ m. ids_handed lost m count) b ∙ ap (ids_handed lost n) c ∙ ids_are_handed lost n gained

pub apply-requires-clause-wide : goal.apply-requires-clause-wide
apply-requires-clause-wide c =
    let f = rw (← c.self.view_is, ← c.prepared.view_is) at c.requires.fits in
    subst (λ n. AllWidth n c.prepared.inside.gained.items)
    (sym c.self.invariant.kept.width ∙ length-cells_of c.self.inside.logs.items ∙ search rules)
    f.hands.wide

pub apply-requires-clause-typed : goal.apply-requires-clause-typed
apply-requires-clause-typed c =
    let a = c.self.inside in
    let f = rw (← c.self.view_is, ← c.prepared.view_is) at c.requires.fits in
    subst (λ ks. AreRowsOf ks c.prepared.inside.gained.items) (sym c.self.invariant.kinds)
    (gained_typed a.columns.items a.keys.items (cells_of a.logs.items) a.live.ids _
    c.self.invariant.kept _ f)

pub apply-requires-clause-known : goal.apply-requires-clause-known
apply-requires-clause-known c =
    let f = rw (← c.self.view_is, ← c.prepared.view_is) at c.requires.fits in
    known c.deref-3.result.now c.prepared.inside.lost.items c.self.inside.keys.items _
    c.deref-3.ensures.value (search rules) f.hands.lost_open

pub apply-requires-clause-later : goal.apply-requires-clause-later
apply-requires-clause-later c = λ k h.
    let f = rw (← c.self.view_is, ← c.prepared.view_is) at c.requires.fits in
    (key_before c.prepared.inside.stamp c.self.inside.keys.items f.before.keys k (search rules)).0

pub apply-requires-clause-room : goal.apply-requires-clause-room
apply-requires-clause-room c =
    let f = rw (← c.self.view_is, ← c.prepared.view_is) at c.requires.fits in
    spare_each (rows_room c.prepared.inside.gained.items) _ c.self.inside.logs.items
    (le_trans f.room (min-le_left _ _))

pub apply-requires-clause-key_room : goal.apply-requires-clause-key_room
apply-requires-clause-key_room c =
    let r = le_trans (rw (← c.self.view_is, ← c.prepared.view_is) at c.requires.room)
    (min-le_left _ _) in
    let s = spare_least (length c.prepared.inside.gained.items) _ c.self.inside.logs.items r in
    let w : vec_len c.self.inside.keys ≤ vec_capacity c.self.inside.keys =
    grind (arith, common_steps) in
    key_room (vec_capacity c.self.inside.keys) (vec_len c.self.inside.keys) _
    (least_room c.self.inside.live.room c.self.inside.others.items) _ s w

pub change_index-requires-clause-placed : goal.change_index-requires-clause-placed
change_index-requires-clause-placed c =
    let a = c.self.inside in
    let f = rw (← c.self.view_is, ← c.prepared.view_is) at c.requires.fits in
    placed_then a.columns.items a.keys.items (cells_of a.logs.items) a.live.ids _
    c.self.invariant.kept _ f

pub change_index-requires-clause-room : goal.change_index-requires-clause-room
change_index-requires-clause-room c =
    let a = c.self.inside in
    let f = rw (← c.self.view_is, ← c.prepared.view_is) at c.requires.fits in
    let r = le_trans (rw (← c.self.view_is, ← c.prepared.view_is) at c.requires.room)
    (min-le_left _ _) in
    let s = spare_least (length c.prepared.inside.gained.items) _ a.logs.items r in
    let p = placed_then a.columns.items a.keys.items (cells_of a.logs.items) a.live.ids _
    c.self.invariant.kept _ f in
    let few = few_are_few (length a.live.ids) _
    (few_placed (index_of c.prepared.inside.after) a.live.ids p) in
    let n = index_room (few_of (length a.live.ids)) (least_room a.live.room a.others.items) _
    (length c.prepared.inside.gained.items) _ s f.more few in
    let b = least_room_below a.live.room a.others.items in
    omega (arith, n, b)

pub invariant_of-self : goal.invariant_of-self
invariant_of-self c =
    let a = c.self.inside in
    let f = rw (← c.self.view_is, ← c.prepared.view_is) at c.requires.fits in
    let r = le_trans (rw (← c.self.view_is, ← c.prepared.view_is) at c.requires.room)
    (min-le_right _ _) in
    let l = (rw (c.deref.ensures.value, c.deref-2.ensures.value) at c.lose_each.ensures.indexed)
    a.live.ids c.self.invariant.others in
    let next : c.len-next.result ≡ length a.keys.items = search rules in
    let count : c.len-count.result ≡ length c.prepared.inside.gained.items = search rules in
    let ids = given c.deref-5.result.now c.prepared.inside.lost.items c.len-next.result
    (length a.keys.items) c.len-count.result c.prepared.inside.gained.items
    c.deref-5.ensures.value next count in
    let e = rw c.deref-3.ensures.value at c.apply.ensures.cells in
    let long : length c.gain_each.new.others.items ≡ length c.lose_each.new.others.items =
    grind (arith, common_steps) in
    let each = rw (c.deref-4.ensures.value, ids) at c.gain_each.ensures.each in
    record {
      kept = rw (
        c.apply.ensures.keys,
        c.apply.ensures.cells,
        c.deref-3.ensures.value,
        c.change_index.ensures,
      ) (prepared_kept a.columns.items a.keys.items (cells_of a.logs.items)
          a.live.ids _ c.self.invariant.kept _ f);
      ids = λ k d b. c.apply.ensures.ids k d b ∙ search rules;
      kinds = c.apply.ensures.kinds ∙ c.self.invariant.kinds;
      counted = rw (c.apply.ensures.cells, c.deref-3.ensures.value)
          (still_counted (handed c.prepared.inside.lost.items (length a.keys.items)
          c.prepared.inside.gained.items) c.prepared.inside.gained.items c.prepared.inside.stamp
          (cells_of a.logs.items) c.self.invariant.counted r);
      others = rw (c.apply.ensures.cells, c.deref-3.ensures.value, c.change_index.ensures)
          (all_indexed a.columns.items a.keys.items (cells_of a.logs.items) a.live.ids _
          c.self.invariant.kept _ f c.apply.new.columns.items c.lose_each.new.others.items
          c.gain_each.new.others.items e l long
          (λ k d h. (let b : k < vec_len c.lose_each.new.others = grind (arith, common_steps) in
          each k d b)));
    }

pub lose_each-requires-clause-ready : goal.lose_each-requires-clause-ready
lose_each-requires-clause-ready c =
    let a = c.self.inside in
    rw c.deref.ensures.value (ready_each a.logs.items (length a.keys.items) a.live.ids []
    a.others.items (λ q i. (c.self.invariant.kept.stored.are_open q i).0) c.self.invariant.ids
    c.self.invariant.others)

pub lose_each-requires-clause-there : goal.lose_each-requires-clause-there
lose_each-requires-clause-there c =
    let a = c.self.inside in
    let f = rw (← c.self.view_is, ← c.prepared.view_is) at c.requires.fits in
    rw c.deref-2.ensures.value (all_lost a.columns.items a.keys.items (cells_of a.logs.items)
    a.live.ids _ c.self.invariant.kept _ f a.others.items c.self.invariant.others)

pub lose_each-requires-clause-room : goal.lose_each-requires-clause-room
lose_each-requires-clause-room c = λ few.
    let a = c.self.inside in
    let r = le_trans (rw (← c.self.view_is, ← c.prepared.view_is) at c.requires.room)
    (min-le_left _ _) in
    let s = spare_least (length c.prepared.inside.gained.items) _ a.logs.items r in
    let count : c.len-count.result ≡ length c.prepared.inside.gained.items = search rules in
    least_room_each c.len-count.result a.live.room a.others.items
    (index_room (few_of (length a.live.ids)) (least_room a.live.room a.others.items) _
    (length c.prepared.inside.gained.items) c.len-count.result s (omega (arith, count))
    (rw c.len.ensures at few))

pub gain_each-requires-clause-ready : goal.gain_each-requires-clause-ready
gain_each-requires-clause-ready c =
    let a = c.self.inside in
    let f = rw (← c.self.view_is, ← c.prepared.view_is) at c.requires.fits in
    let l = (rw (c.deref.ensures.value, c.deref-2.ensures.value) at c.lose_each.ensures.indexed)
    a.live.ids c.self.invariant.others in
    let e = rw c.deref-3.ensures.value at c.apply.ensures.cells in
    let n = key_count a.keys.items c.prepared.inside.lost.items c.prepared.inside.gained.items
    c.prepared.inside.stamp in
    let m : vec_len c.apply.new.keys ≡ length
    (keys_handed a.keys.items c.prepared.inside.lost.items c.prepared.inside.gained.items
    c.prepared.inside.stamp) = first_of (search rules, grind (arith, common_steps)) in
    rw c.deref-4.ensures.value (all_ready a.columns.items a.keys.items (cells_of a.logs.items)
    a.live.ids _ c.self.invariant.kept _ f c.apply.new.columns.items
    (vec_len c.apply.new.keys) e c.apply.ensures.ids (omega (arith, n, m))
    c.lose_each.new.others.items l)

pub gain_each-requires-clause-new : goal.gain_each-requires-clause-new
gain_each-requires-clause-new c = λ q j d i h.
    let a = c.self.inside in
    let f = rw (← c.self.view_is, ← c.prepared.view_is) at c.requires.fits in
    let next : c.len-next.result ≡ length a.keys.items = search rules in
    let count : c.len-count.result ≡ length c.prepared.inside.gained.items = search rules in
    let ids = given c.deref-5.result.now c.prepared.inside.lost.items c.len-next.result
    (length a.keys.items) c.len-count.result c.prepared.inside.gained.items
    c.deref-5.ensures.value next count in
    let n = key_count a.keys.items c.prepared.inside.lost.items c.prepared.inside.gained.items
    c.prepared.inside.stamp in
    let m : vec_len c.apply.new.keys ≡ length
    (keys_handed a.keys.items c.prepared.inside.lost.items c.prepared.inside.gained.items
    c.prepared.inside.stamp) = first_of (search rules, grind (arith, common_steps)) in
    let b = subst (λ cs. j < length cs) c.deref-4.ensures.value h in
    rw c.deref-4.ensures.value (all_new a.columns.items a.keys.items (cells_of a.logs.items)
    a.live.ids _ c.self.invariant.kept _ f c.apply.new.columns.items
    (vec_len c.apply.new.keys) (m ∙ n) c.apply.ensures.ids q j d (subst (In q) ids i) b)

pub gain_each-requires-clause-fresh : goal.gain_each-requires-clause-fresh
gain_each-requires-clause-fresh c = λ j d h q i.
    let a = c.self.inside in
    let f = rw (← c.self.view_is, ← c.prepared.view_is) at c.requires.fits in
    let l = (rw (c.deref.ensures.value, c.deref-2.ensures.value) at c.lose_each.ensures.indexed)
    a.live.ids c.self.invariant.others in
    let next : c.len-next.result ≡ length a.keys.items = search rules in
    let count : c.len-count.result ≡ length c.prepared.inside.gained.items = search rules in
    let ids = given c.deref-5.result.now c.prepared.inside.lost.items c.len-next.result
    (length a.keys.items) c.len-count.result c.prepared.inside.gained.items
    c.deref-5.ensures.value next count in
    all_fresh a.columns.items a.keys.items (cells_of a.logs.items) a.live.ids _
    c.self.invariant.kept _ f c.lose_each.new.others.items l j d h q (subst (In q) ids i)

pub gain_each-requires-clause-distinct : goal.gain_each-requires-clause-distinct
gain_each-requires-clause-distinct c =
    let a = c.self.inside in
    let f = rw (← c.self.view_is, ← c.prepared.view_is) at c.requires.fits in
    let next : c.len-next.result ≡ length a.keys.items = search rules in
    let count : c.len-count.result ≡ length c.prepared.inside.gained.items = search rules in
    let ids = given c.deref-5.result.now c.prepared.inside.lost.items c.len-next.result
    (length a.keys.items) c.len-count.result c.prepared.inside.gained.items
    c.deref-5.ensures.value next count in
    subst Distinct (sym ids) (all_apart a.columns.items a.keys.items (cells_of a.logs.items)
    a.live.ids _ c.self.invariant.kept _ f)

pub returns-clause-cells : goal.returns-clause-cells
returns-clause-cells c =
    let a = c.self.inside in
    let f = rw (← c.self.view_is, ← c.prepared.view_is) at c.requires.fits in
    rw (
      c.apply.ensures.keys,
      c.apply.ensures.cells,
      c.deref-3.ensures.value,
      ← c.self.view_is,
      ← c.prepared.view_is,
    )
    (prepared_cells a.columns.items a.keys.items (cells_of a.logs.items) a.live.ids _
    c.self.invariant.kept _ f)

pub returns-clause-before : goal.returns-clause-before
returns-clause-before c m h =
    let a = c.self.inside in
    let f = rw (← c.self.view_is, ← c.prepared.view_is) at c.requires.fits in
    let b = rw (← c.prepared.view_is) at h in
    rw (
      c.apply.ensures.keys,
      c.apply.ensures.cells,
      c.deref-3.ensures.value,
      ← c.self.view_is,
    ) (prepared_before a.columns.items a.keys.items (cells_of a.logs.items)
    a.live.ids _ c.self.invariant.kept _ f _ _ m b)

pub returns-clause-from : goal.returns-clause-from
returns-clause-from c m h l =
    let a = c.self.inside in
    let f = rw (← c.self.view_is, ← c.prepared.view_is) at c.requires.fits in
    let b = rw (← c.prepared.view_is) at h in
    rw (
      c.apply.ensures.keys,
      c.apply.ensures.cells,
      c.deref-3.ensures.value,
      ← c.self.view_is,
      ← c.prepared.view_is,
    )
    (prepared_from a.columns.items a.keys.items (cells_of a.logs.items) a.live.ids _
    c.self.invariant.kept _ f _ _ m b l)

pub returns-clause-later : goal.returns-clause-later
returns-clause-later c m h =
    let a = c.self.inside in
    let f = rw (← c.self.view_is, ← c.prepared.view_is) at c.requires.fits in
    let b = rw (← c.prepared.view_is) at h in
    rw (c.apply.ensures.keys, c.apply.ensures.cells, c.deref-3.ensures.value)
    (prepared_later a.columns.items a.keys.items (cells_of a.logs.items) a.live.ids _
    c.self.invariant.kept _ f _ m b)

pub returns-clause-key_count : goal.returns-clause-key_count
returns-clause-key_count c =
    let a = c.self.inside in
    rw (c.apply.ensures.keys, c.deref-3.ensures.value, ← c.self.view_is, ← c.prepared.view_is)
    (key_count a.keys.items c.prepared.inside.lost.items c.prepared.inside.gained.items
    c.prepared.inside.stamp)

pub returns-clause-written : goal.returns-clause-written
returns-clause-written c g k h =
    let a = c.self.inside in
    let f = rw (← c.self.view_is, ← c.prepared.view_is) at c.requires.fits in
    let b = rw (← c.self.view_is) at h in
    rw (
      c.apply.ensures.keys,
      c.apply.ensures.cells,
      c.deref-3.ensures.value,
      ← c.self.view_is,
      ← c.prepared.view_is,
    )
    (prepared_written a.columns.items a.keys.items (cells_of a.logs.items) a.live.ids _
    c.self.invariant.kept _ f g k b)

pub returns-clause-valid : goal.returns-clause-valid
returns-clause-valid c =
    let a = c.self.inside in
    let f = rw (← c.self.view_is, ← c.prepared.view_is) at c.requires.fits in
    rw (c.apply.ensures.keys, c.apply.ensures.cells, c.deref-3.ensures.value)
    (is_store a.columns.items _ _ _ _ (prepared_kept a.columns.items a.keys.items
    (cells_of a.logs.items) a.live.ids _ c.self.invariant.kept _ f))

pub returns-clause-indexed : goal.returns-clause-indexed
returns-clause-indexed c =
    let a = c.self.inside in
    let f = rw (← c.self.view_is, ← c.prepared.view_is) at c.requires.fits in
    let n : length c.gain_each.new.others.items ≡ length c.lose_each.new.others.items =
    grind (arith, common_steps) in
    let same = same_columns c.lose_each.new.others.items c.gain_each.new.others.items n
    (λ k d h. (let b : k < vec_len c.lose_each.new.others = grind (arith, common_steps) in
    (c.gain_each.ensures.each k d b).column)) in
    let count : c.len-count.result ≡ length c.prepared.inside.gained.items = search rules in
    let rows = sym (ap length (relation_from a.columns.items a.keys.items (cells_of a.logs.items)
    a.live.ids _ c.prepared.inside.stamp c.prepared.inside.stamp c.self.invariant.kept f.before
    (omega arith) f.valid) ∙ length-rows_of a.live.ids (cells_of a.logs.items)) in
    rw (← c.self.view_is, ← c.prepared.view_is)
    (same ∙ (rw (c.deref-2.ensures.value, count) at c.lose_each.ensures.columns)
    ∙ ap (λ m. indexed_after m (length c.prepared.inside.lost.items)
    (length c.prepared.inside.gained.items) (indexed_columns a.others.items))
    (c.len.ensures ∙ rows))
