use Rattle.std.proofs.Common.{◌≡◌, ◌-◌, ◌++◌, drop, map}
use Rattle.std.specs.Prelude.{All}
use Rattle.relations_spec.specs.Sets.{Ascends}
use Rattle.relations_spec.specs.Spans.{forever}
use Rattle.prima_base.specs.Order.{shown}
use Rattle.prima_base.specs.Columns.{IsValid}
use Rattle.history_store.specs.Store.{row_at, cell_cmp}
use Rattle.history_store.specs.Restoring.{entries_of}
use Rattle.cases_store_tables.proofs.row_comparison.row_of.Given as goal

abbrev pub invariant-loop-cells : goal.invariant-loop-cells
invariant-loop-cells l = record {
  whole : row_at l.id (forever - 1) (entries_of l.columns) ≡ map shown l.values.items
      ++ row_at l.id (forever - 1) (entries_of (drop l.cells-index l.columns));
  valid : All (λ v. IsValid (shown v)) l.values.items;
  left : All (All (λ c. IsValid c.value)) (entries_of (drop l.cells-index l.columns));
  rising : All (Ascends cell_cmp) (entries_of (drop l.cells-index l.columns));
}
