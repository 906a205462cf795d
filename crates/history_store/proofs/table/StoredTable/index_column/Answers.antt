use Rattle.std.proofs.Common.{◌≡◌, false, ◌<◌, ◌≤◌, ◌-◌, length, sym, ap, ◌∙◌, subst, vec_len}
use Rattle.std.proofs.Common.{vec_capacity, [], ◌∷◌, ◌++◌}
use Rattle.history_store_writes.specs.ValueIndexes.{indexed_columns, is_indexed, least_room}
use Rattle.history_store_writes.specs.ValueIndexes.{IsIndexed}
use Rattle.history_store_row_order.specs.Logs.{cells_of, few_of}
use Rattle.history_store_writes.specs.Logs.{with_index}
use Rattle.history_store_value_order.specs.ByValue.{Distinct}
use Rattle.history_store_row_order.proofs.Cells.{length-cells_of}
use Rattle.history_store_writes.proofs.Rows.{least_up, less_up}
use Rattle.history_store_writes.proofs.Carry.{still_with_index}
use Rattle.history_store_change_spec.proofs.Changing.{distinct_ids}
use Rattle.history_store_change_spec.proofs.Preparing.{all_known_in}
use Rattle.history_store_writes.proofs.Others.{columns_pushed, one_pushed, least_room_push}
use Rattle.history_store.proofs.table.StoredTable.index_column.Goals as goal

pub of-requires-clause-within : goal.of-requires-clause-within
of-requires-clause-within c =
    let a = c.self.inside in
    let h = rw (← c.self.view_is) at c.requires.within in
    subst (λ n. c.args.column < n) (sym c.self.invariant.kept.width ∙ length-cells_of a.logs.items
    ∙ ap length (sym c.deref-2.ensures.value)) h

pub of-requires-clause-known : goal.of-requires-clause-known
of-requires-clause-known c =
    let a = c.self.inside in
    all_known_in a.live.ids c.deref-3.result.now a.keys.items a.logs.items c.deref-2.result.now
    (c.deref-3.ensures.value ∙ c.in_ok-copy.ensures) c.deref-2.ensures.value
    c.self.invariant.kept.stored.are_open c.self.invariant.ids

pub of-requires-clause-distinct : goal.of-requires-clause-distinct
of-requires-clause-distinct c =
    let a = c.self.inside in
    subst Distinct (sym (c.deref-3.ensures.value ∙ c.in_ok-copy.ensures))
    (distinct_ids (cells_of a.logs.items) a.live.ids c.self.invariant.kept.stored.ordered)

pub invariant_of-self : goal.invariant_of-self
invariant_of-self c = record {
  kept = c.self.invariant.kept;
  ids = c.self.invariant.ids;
  kinds = c.self.invariant.kinds;
  counted = c.self.invariant.counted;
  others = rw c.in_err-push.ensures.items c.self.invariant.others;
}

pub invariant_of-self-2 : goal.invariant_of-self-2
invariant_of-self-2 c =
    let a = c.self.inside in
    let i = rw (c.deref-2.ensures.value, c.deref-3.ensures.value, c.in_ok-copy.ensures) at
    c.in_ok-index.ensures.indexed in
    record {
      kept = c.self.invariant.kept;
      ids = c.self.invariant.ids;
      kinds = c.self.invariant.kinds;
      counted = c.self.invariant.counted;
      others = rw c.in_ok-push.ensures.items (one_pushed
          (IsIndexed (cells_of a.logs.items) a.live.ids []) a.others.items c.in_ok-index.index
          c.self.invariant.others i);
    }

pub returns-clause-spare : goal.returns-clause-spare
returns-clause-spare c =
    let a = c.self.inside in
    let n = vec_capacity a.keys - vec_len a.keys in
    let few = few_of (length a.live.ids) in
    let room : few ≤ c.in_ok-index.index.room =
    rw (c.deref-3.ensures.value, c.in_ok-copy.ensures) at c.in_ok-index.ensures.room in
    let more = least_room_push a.live.room few a.others.items c.in_ok-index.index room in
    rw (← c.self.view_is, c.in_ok-push.ensures.items)
    (less_up _ _ _ (least_up (with_index few (least_room a.live.room a.others.items) n)
    (with_index few (least_room a.live.room (a.others.items ++ c.in_ok-index.index ∷ [])) n)
    a.logs.items (still_with_index few (least_room a.live.room a.others.items)
    (least_room a.live.room (a.others.items ++ c.in_ok-index.index ∷ [])) n more)))

pub returns-clause-done : goal.returns-clause-done
returns-clause-done c =
    let a = c.self.inside in
    let none : is_indexed c.args.column (indexed_columns a.others.items) ≡ false =
    sym (rw c.deref.ensures.value at c.index_of.ensures.there) ∙ sym c.is_some.ensures
    ∙ c.if-is_some.false in
    rw (← c.self.view_is, c.in_ok-push.ensures.items, none)
    (columns_pushed a.others.items c.in_ok-index.index
    ∙ ap (λ k. indexed_columns a.others.items ++ k ∷ []) c.in_ok-index.ensures.column)
