use Rattle.std.proofs.Common.{◌≡◌, ◌+◌, ◌++◌, ℕ, length, take, drop}
use Rattle.std.specs.Prelude.{All}
use Rattle.std.specs.Vec.Iter.{into_iter_items}
use Rattle.prima_base.specs.Columns.{IsValid}
use Rattle.history_store_row_order.specs.Logs.{cells_of}
use Rattle.history_store_writes.specs.Logs.{kinds_of, types_of}
use Rattle.history_store.specs.Restoring.{entries_of}
use Rattle.history_store_change_spec.specs.Restoring.{writes_of, AreInTurn, ids_known, AreEntriesOf}
use Rattle.history_store.proofs.restoration.restored_columns.Given as goal

abbrev pub invariant-loop-list : goal.invariant-loop-list
invariant-loop-list l =
    let rest = entries_of (into_iter_items l.list-iterator) in
    record {
      width : length l.restored.items + length rest ≡ length l.columns;
      typed : AreEntriesOf (types_of (drop (length l.restored.items) l.columns)) rest;
      kinds : kinds_of l.restored.items ≡ types_of (take (length l.restored.items) l.columns);
      valid : All (All (λ c. IsValid c.value)) rest;
      turn : All (AreInTurn 0) rest;
      cells : writes_of (entries_of l.fn.cells.items) ≡ cells_of l.restored.items ++ writes_of rest;
      left : (n : ℕ) → All (λ list. ids_known 0 list ≡ n) (entries_of l.fn.cells.items)
          → All (λ list. ids_known 0 list ≡ n) rest;
      ids : (n : ℕ) → All (λ list. ids_known 0 list ≡ n) (entries_of l.fn.cells.items)
          → All (λ c. c.ids ≡ n) l.restored.items;
    }
