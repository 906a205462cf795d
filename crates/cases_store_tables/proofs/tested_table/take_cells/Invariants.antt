use Rattle.std.proofs.Common.{◌≡◌, ◌++◌, length, map}
use Rattle.std.specs.Prelude.{All}
use Rattle.prima_base.specs.Columns.{IsValid}
use Rattle.history_store.specs.Restoring.{cell_of}
use Rattle.cases_store_tables.proofs.tested_table.take_cells.Given as goal

abbrev pub invariant-entries : goal.invariant-entries
invariant-entries g l = record {
  taken : map cell_of l.cells.items ++ l.scan ≡ l.initial.scan;
  valid : All (λ c. IsValid c.value) (map cell_of l.cells.items);
}

abbrev pub decreases-entries : goal.decreases-entries
decreases-entries g l = length l.scan
