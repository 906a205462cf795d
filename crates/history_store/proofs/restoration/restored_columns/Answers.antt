use Rattle.std.proofs.Common.{rules, ◌≡◌, ◌<◌, suc, [], ◌∷◌, length, get_or, length-append}
use Rattle.std.proofs.Common.{append_assoc, sym, ap, ◌∙◌, arith}
use Rattle.std.specs.Vec.Iter.{into_iter_items}
use Rattle.std.proofs.lemmas.List.{drop_more}
use Rattle.history_store_row_order.specs.Logs.{cells_of}
use Rattle.history_store.specs.Restoring.{entries_of}
use Rattle.history_store_change_spec.specs.Restoring.{writes_of}
use Rattle.history_store_writes.proofs.Others.{one_pushed}
use Rattle.history_store_row_order.proofs.Cells.{cells_of-push}
use Rattle.history_store_writes.proofs.Rows.{kinds_more}
use Rattle.history_store_change_spec.proofs.Restored.{valid_cells}
use Rattle.history_store.proofs.restoration.restored_columns.Goals as goal

pub column_of-requires-clause-valid : goal.column_of-requires-clause-valid
column_of-requires-clause-valid c = valid_cells _
    ((rw c.in-Some.ensures.steps.0 at c.loop-list.invariant.valid) 0 [] (omega arith))

pub column_of-requires-clause-turn : goal.column_of-requires-clause-turn
column_of-requires-clause-turn c = (rw c.in-Some.ensures.steps.0 at c.loop-list.invariant.turn) 0 []
    (omega arith)

pub loop-list-preserved : goal.loop-list-preserved
loop-list-preserved c =
    let i = c.loop-list.invariant in
    let s = c.in-Some.ensures.steps.0 in
    let columns = c.args.columns.now in
    let restored = c.loop-list.restored.items in
    let x = c.in_ok-column_of.field-0 in
    let column = c.index-columns-len.result in
    let width = rw s at i.width in
    let b : length restored < length columns = omega (arith, width) in
    let n : c.len-in-loop-list.result ≡ length restored = search rules in
    let more = length-append restored (x ∷ []) in
    let l = rw s at i.valid in
    let t = rw s at i.turn in
    let w = rw s at i.cells in
    record {
      width = rw (c.in_ok-push.ensures.items, more) (omega (arith, width));
      typed = rw (c.in_ok-push.ensures.items, more)
          (rw (drop_more columns (length restored) column b, s) at i.typed).1;
      kinds = rw (c.in_ok-push.ensures.items, more)
          (kinds_more restored x columns (length restored) column i.kinds b
          (c.in_ok-column_of.ensures.kind ∙ ap (λ k. (get_or columns k column).1) n));
      valid = λ k d h. l (suc k) d (omega (arith, h));
      turn = λ k d h. t (suc k) d (omega (arith, h));
      cells = w ∙ rw (
        c.in_ok-push.ensures.items,
        cells_of-push restored x,
        c.in_ok-column_of.ensures.cells,
      ) (sym
          (append_assoc (cells_of restored) (_ ∷ [])
          (writes_of (entries_of (into_iter_items c.next.new.self)))));
      left = λ n a k d h. (rw s at (i.left n a)) (suc k) d (omega (arith, h));
      ids = λ n a. rw c.in_ok-push.ensures.items
          (one_pushed (λ x. x.ids ≡ n) restored x (i.ids n a)
          (c.in_ok-column_of.ensures.ids ∙ (rw s at (i.left n a)) 0 [] (omega arith)));
    }
