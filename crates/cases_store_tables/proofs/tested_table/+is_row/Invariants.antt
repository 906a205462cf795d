use Rattle.std.proofs.Common.{length}
use Rattle.cases_store_tables.proofs.tested_table.+is_row.Given as goal

abbrev pub decreases-is_row : goal.decreases-is_row
decreases-is_row l = length l.columns.now
