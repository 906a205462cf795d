use Rattle.std.proofs.Common.{◌≡◌, take}
use Rattle.std.specs.Prelude.{All}
use Rattle.prima_base.specs.Columns.{IsValid}
use Rattle.history_store.specs.Restoring.{entries_of}
use Rattle.cases_store_tables.proofs.tested_table.take_columns.Given as goal

abbrev pub invariant-loop-column : goal.invariant-loop-column
invariant-loop-column g l = record {
  taken : entries_of l.columns.items ≡ take l.column l.stored.cells;
  valid : All (All (λ c. IsValid c.value)) (entries_of l.columns.items);
}
