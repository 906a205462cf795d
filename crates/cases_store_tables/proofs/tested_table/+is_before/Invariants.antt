use Rattle.std.proofs.Common.{length}
use Rattle.cases_store_tables.proofs.tested_table.+is_before.Given as goal

abbrev pub decreases-is_before : goal.decreases-is_before
decreases-is_before l = length l.columns.now
