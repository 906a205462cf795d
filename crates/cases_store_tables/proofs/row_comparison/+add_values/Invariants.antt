use Rattle.std.proofs.Common.{length}
use Rattle.cases_store_tables.proofs.row_comparison.+add_values.Given as goal

abbrev pub decreases-add_values : goal.decreases-add_values
decreases-add_values l = length l.cells.now
