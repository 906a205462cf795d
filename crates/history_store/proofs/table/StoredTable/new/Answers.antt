use Rattle.std.proofs.Common.{◌≡◌, ◌<◌, ◌+◌, [], length, get_or, ap, sym, ◌∙◌, subst, arith}
use Rattle.history_store_row_order.specs.Logs.{cells_of}
use Rattle.history_store_writes.specs.Logs.{types_of}
use Rattle.history_store.specs.Store.{Store, AreColumns, weight, relation_at}
use Rattle.history_store_change_spec.specs.Kept.{store_of}
use Rattle.history_store_row_order.specs.Handing.{only_in, handed}
use Rattle.history_store_change_spec.specs.Handing.{written}
use Rattle.history_store_change_spec.specs.Change.{IsPrepared, keys_after, cells_after, rows_along}
use Rattle.history_store_change_spec.specs.Change.{write_rows}
use Rattle.history_store_change_spec.specs.Change.{no_cells}
use Rattle.history_store_writes.specs.ValueIndexes.{indexed_after}
use Rattle.history_store_writes.proofs.Others.{none_after}
use Rattle.history_store_row_order.proofs.Cells.{length-cells_of}
use Rattle.history_store_change_spec.proofs.CellCounts.{none_counted}
use Rattle.history_store_change_spec.proofs.Applied.{length-new_keys}
use Rattle.history_store_change_spec.proofs.Beginning.{none_kept, none_before, none_now, all_gained}
use Rattle.history_store_change_spec.proofs.Beginning.{no_lost}
use Rattle.history_store_change_spec.proofs.Beginning.{first_keys, first_cells, none_weight}
use Rattle.history_store_change_spec.proofs.Beginning.{first_written}
use Rattle.history_store_change_spec.proofs.Beginning.{prepared_is}
use Rattle.history_store.proofs.table.StoredTable.new.Goals as goal

pub invariant_of-table : goal.invariant_of-table
invariant_of-table c = record {
  kept = rw (c.new.ensures.items, c.in_ok-of.ensures)
      (none_kept c.in_ok-copy_columns.field-0.items c.in_ok-empty_columns.field-0.items
      (subst AreColumns (sym c.in_ok-copy_columns.ensures) c.requires.columns)
      (c.in_ok-empty_columns.ensures.width ∙ ap length (sym c.in_ok-copy_columns.ensures))
      c.in_ok-empty_columns.ensures.cells);
  others = λ k d h. absurd (let b = rw c.new-2.ensures.items at h in omega (arith, b));
  ids = λ k d h. c.in_ok-empty_columns.ensures.ids k d h ∙ sym (ap length c.new.ensures.items);
  kinds = c.in_ok-empty_columns.ensures.kinds ∙ ap types_of (sym c.in_ok-copy_columns.ensures);
  counted = rw (none_counted c.in_ok-empty_columns.field-0.items
      c.in_ok-empty_columns.ensures.cells) (omega arith);
}

pub prepare-requires-clause-before : goal.prepare-requires-clause-before
prepare-requires-clause-before c = rw (c.new.ensures.items, c.new-2.ensures.items)
    (none_before c.in_ok-copy_columns.field-0.items (cells_of c.in_ok-empty_columns.field-0.items) _
    _)

pub returns-clause-keys : goal.returns-clause-keys
returns-clause-keys c =
    let columns = c.in_ok-copy_columns.field-0.items in
    let logs = cells_of c.in_ok-empty_columns.field-0.items in
    let n = c.prepare.new.self.spare in
    let p = c.in_ok-prepared.prepared in
    let e : c.prepare.new.self ≡ store_of columns [] logs n [] =
    rw (c.new.ensures.items, c.new-2.ensures.items) at c.in_ok-prepared.ensures.same in
    let f : IsPrepared (store_of columns [] logs n []) p =
    subst (λ (t : Store). IsPrepared t p) e c.in_ok-prepared.ensures.fits in
    let q : p.gained ≡ only_in c.args.rows.now
    (relation_at (store_of columns [] logs _ []) c.args.stamp) =
    rw (c.new.ensures.items, c.new-2.ensures.items) at c.in_ok-prepared.ensures.gained in
    let g : p.gained ≡ c.args.rows.now = q ∙ ap (only_in c.args.rows.now)
    (none_now columns logs _ c.args.stamp) ∙ all_gained c.args.rows.now in
    let i = prepared_is p c.args.stamp c.args.rows.now c.in_ok-prepared.ensures.stamp
    (no_lost columns logs n p f) g in
    c.install.ensures.keys ∙ ap (λ (t : Store). keys_after t p) e
    ∙ ap (keys_after (store_of columns [] logs n [])) i
    ∙ first_keys columns logs n c.args.stamp c.args.rows.now p.after

pub returns-clause-cells : goal.returns-clause-cells
returns-clause-cells c =
    let columns = c.in_ok-copy_columns.field-0.items in
    let logs = cells_of c.in_ok-empty_columns.field-0.items in
    let n = c.prepare.new.self.spare in
    let p = c.in_ok-prepared.prepared in
    let e : c.prepare.new.self ≡ store_of columns [] logs n [] =
    rw (c.new.ensures.items, c.new-2.ensures.items) at c.in_ok-prepared.ensures.same in
    let f : IsPrepared (store_of columns [] logs n []) p =
    subst (λ (t : Store). IsPrepared t p) e c.in_ok-prepared.ensures.fits in
    let q : p.gained ≡ only_in c.args.rows.now
    (relation_at (store_of columns [] logs _ []) c.args.stamp) =
    rw (c.new.ensures.items, c.new-2.ensures.items) at c.in_ok-prepared.ensures.gained in
    let g : p.gained ≡ c.args.rows.now = q ∙ ap (only_in c.args.rows.now)
    (none_now columns logs _ c.args.stamp) ∙ all_gained c.args.rows.now in
    let i = prepared_is p c.args.stamp c.args.rows.now c.in_ok-prepared.ensures.stamp
    (no_lost columns logs n p f) g in
    let w : length logs ≡ length columns = length-cells_of c.in_ok-empty_columns.field-0.items
    ∙ c.in_ok-empty_columns.ensures.width ∙ ap length (sym c.in_ok-copy_columns.ensures) in
    c.install.ensures.cells ∙ ap (λ (t : Store). cells_after t p) e
    ∙ ap (cells_after (store_of columns [] logs n [])) i
    ∙ first_cells columns logs n c.args.stamp c.args.rows.now p.after w
    ∙ ap (λ cs. write_rows (handed [] 0 c.args.rows.now) c.args.rows.now c.args.stamp (no_cells cs))
    c.in_ok-copy_columns.ensures

pub returns-clause-key_count : goal.returns-clause-key_count
returns-clause-key_count c = ap length (returns-clause-keys c)
    ∙ length-new_keys c.args.stamp c.args.rows.now

pub returns-clause-written : goal.returns-clause-written
returns-clause-written c f k h =
    let columns = c.in_ok-copy_columns.field-0.items in
    let logs = cells_of c.in_ok-empty_columns.field-0.items in
    let n = c.prepare.new.self.spare in
    let p = c.in_ok-prepared.prepared in
    let e : c.prepare.new.self ≡ store_of columns [] logs n [] =
    rw (c.new.ensures.items, c.new-2.ensures.items) at c.in_ok-prepared.ensures.same in
    let i : IsPrepared (store_of columns [] logs n []) p =
    subst (λ (t : Store). IsPrepared t p) e c.in_ok-prepared.ensures.fits in
    let q : p.gained ≡ only_in c.args.rows.now
    (relation_at (store_of columns [] logs _ []) c.args.stamp) =
    rw (c.new.ensures.items, c.new-2.ensures.items) at c.in_ok-prepared.ensures.gained in
    let g : p.gained ≡ c.args.rows.now = q ∙ ap (only_in c.args.rows.now)
    (none_now columns logs _ c.args.stamp) ∙ all_gained c.args.rows.now in
    let b : k < length c.prepare.new.self.columns =
    subst (λ m. k < m) (ap length (sym c.in_ok-copy_columns.ensures)
    ∙ ap (λ (t : Store). length t.columns) (sym e)) h in
    c.install.ensures.written f k b
    ∙ ap (λ m. m + written f k (rows_along p.lost p.stamp c.prepare.new.self.cells) p.gained)
    (ap (λ (t : Store). weight f (get_or t.cells k [])) e ∙ none_weight f k columns logs n)
    ∙ first_written f k p c.args.rows.now c.prepare.new.self.cells (no_lost columns logs n p i) g

pub returns-clause-before : goal.returns-clause-before
returns-clause-before c m h =
    let columns = c.in_ok-copy_columns.field-0.items in
    let logs = cells_of c.in_ok-empty_columns.field-0.items in
    let n = c.prepare.new.self.spare in
    let e : c.prepare.new.self ≡ store_of columns [] logs n [] =
    rw (c.new.ensures.items, c.new-2.ensures.items) at c.in_ok-prepared.ensures.same in
    let b : m < c.in_ok-prepared.prepared.stamp =
    subst (λ s. m < s) (sym c.in_ok-prepared.ensures.stamp) h in
    c.install.ensures.before m b ∙ ap (λ (t : Store). relation_at t m) e ∙ none_now columns logs n m

pub returns-clause-indexed : goal.returns-clause-indexed
returns-clause-indexed c =
    let columns = c.in_ok-copy_columns.field-0.items in
    let logs = cells_of c.in_ok-empty_columns.field-0.items in
    let n = c.prepare.new.self.spare in
    let p = c.in_ok-prepared.prepared in
    let e : c.prepare.new.self ≡ store_of columns [] logs n [] =
    rw (c.new.ensures.items, c.new-2.ensures.items) at c.in_ok-prepared.ensures.same in
    c.install.ensures.indexed ∙ ap (λ (t : Store).
    indexed_after (length (relation_at t p.stamp)) (length p.lost) (length p.gained) t.indexed)
    e ∙ none_after _ (length p.lost) (length p.gained)
