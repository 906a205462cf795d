use Rattle.std.proofs.Common.{◌≡◌, take}
use Rattle.cases_store_tables.proofs.tested_table.given_rows.Given as goal

abbrev pub invariant-loop-row : goal.invariant-loop-row
invariant-loop-row l = l.given.items ≡ take l.row-index l.rows
