use Rattle.std.proofs.Common.{◌≡◌, ◌-◌, ◌++◌, drop}
use Rattle.relations_spec.specs.Spans.{forever}
use Rattle.history_store.specs.Change.{rows_along}
use Rattle.history_store.specs.Restoring.{entries_of}
use Rattle.cases_store_tables.proofs.row_comparison.rows_of.Given as goal

abbrev pub invariant-loop-id : goal.invariant-loop-id
invariant-loop-id l = rows_along l.ids (forever - 1) (entries_of l.columns) ≡ l.rows.items
    ++ rows_along (drop l.id-index l.ids) (forever - 1) (entries_of l.columns)
