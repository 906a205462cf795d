use Rattle.std.proofs.Common.{length}
use Rattle.cases_store_tables.proofs.tested_table.+are_columns.Given as goal

abbrev pub decreases-are_columns : goal.decreases-are_columns
decreases-are_columns l = length l.columns.now
