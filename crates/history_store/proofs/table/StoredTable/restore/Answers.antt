use Rattle.std.proofs.Common.{◌∙◌, length, refl, sym, ap, subst, arith}
use Rattle.std.proofs.lemmas.List.{length-map}
use Rattle.history_store_writes.specs.Logs.{types_of}
use Rattle.history_store.specs.Restoring.{entries_of}
use Rattle.history_store_change_spec.proofs.Valid.{is_store}
use Rattle.history_store_change_spec.proofs.ValueTypes.{entries_typed}
use Rattle.history_store_change_spec.proofs.Restored.{all_written, turns, counts, entries_restored}
use Rattle.history_store_change_spec.proofs.Restored.{restored_kept}
use Rattle.history_store.proofs.table.StoredTable.restore.Goals as goal

pub restored_columns-requires-clause-turn : goal.restored_columns-requires-clause-turn
restored_columns-requires-clause-turn c = turns c.args.columns.now c.args.keys.items
    (entries_of c.args.cells.items) c.requires.store

pub restored_columns-requires-clause-width : goal.restored_columns-requires-clause-width
restored_columns-requires-clause-width c = sym (length-map c.args.cells.items _)
    ∙ c.requires.store.width

pub restored_columns-requires-clause-typed : goal.restored_columns-requires-clause-typed
restored_columns-requires-clause-typed c = entries_typed c.args.columns.now c.args.keys.items
    (entries_of c.args.cells.items) c.requires.store

pub invariant_of-result : goal.invariant_of-result
invariant_of-result c =
    let keys = c.args.keys.items in
    let lists = entries_of c.args.cells.items in
    record {
      kept = rw (c.in_ok-copy_columns.ensures, c.in_ok-logs.ensures.cells, c.in_ok-of.ensures)
          (restored_kept c.args.columns.now keys lists c.requires.store c.args.order.now
          c.requires.order);
      kinds = c.in_ok-logs.ensures.kinds ∙ ap types_of (sym c.in_ok-copy_columns.ensures);
      ids = c.in_ok-logs.ensures.ids (length keys)
          (counts c.args.columns.now keys lists c.requires.store);
      counted = rw (c.in_ok-logs.ensures.cells, all_written lists)
          (rw c.deref.ensures.value at c.in_ok-check_cells.ensures);
      others = λ k d h. absurd (let b = rw c.new.ensures.items at h in omega (arith, b));
    }

pub returns-clause-table : goal.returns-clause-table
returns-clause-table c =
    rw (
      c.in_ok-copy_columns.ensures,
      c.in_ok-logs.ensures.cells,
      entries_restored c.args.columns.now c.args.keys.items (entries_of c.args.cells.items)
          c.requires.store,
      c.new.ensures.items,
    ) refl

pub returns-clause-valid : goal.returns-clause-valid
returns-clause-valid c =
    let keys = c.args.keys.items in
    let lists = entries_of c.args.cells.items in
    rw (c.in_ok-copy_columns.ensures, c.in_ok-logs.ensures.cells)
    (is_store c.args.columns.now keys _ c.args.order.now _
    (restored_kept c.args.columns.now keys lists c.requires.store c.args.order.now
    c.requires.order))
