use Rattle.std.proofs.Common.{◌≡◌, ◌<◌, ◌+◌, ◌++◌, ℕ, cond}
use Rattle.std.specs.Map.{lookup}
use Rattle.std.specs.BTreeMap.{is_at}
use Rattle.std.specs.Vec.Iter.{into_iter_items}
use Rattle.relations_spec.specs.Sets.{has}
use Rattle.relations_spec.specs.Spans.{forever}
use Rattle.prima_base.specs.Order.{row_cmp}
use Rattle.history_store.specs.Store.{AllBefore, relation_at}
use Rattle.smo_ops_spec.specs.OneRow.{Row}
use Rattle.version_groups_changes.specs.PendingChanges.{told}
use Rattle.version_groups_changes.proofs.pending_changes.set_each.Given as goal

abbrev pub invariant-loop-row : goal.invariant-loop-row
invariant-loop-row l = record {
  left : l.fn.rows.items ≡ l.yielded ++ into_iter_items l.row-iterator;
  put : (m : ℕ) → m < forever → AllBefore l.store (m + 1) → (row : Row)
      → lookup (is_at (row_cmp row)) l.pending
      ≡ cond (has row_cmp row l.yielded) (told (has row_cmp row (relation_at l.store m))
      l.there) (lookup (is_at (row_cmp row)) l.fn.pending);
}
