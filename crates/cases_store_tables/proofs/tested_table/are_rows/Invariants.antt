use Rattle.std.proofs.Common.{take}
use Rattle.std.specs.Prelude.{All}
use Rattle.prima_base.specs.Columns.{IsRow}
use Rattle.cases_store_tables.proofs.tested_table.are_rows.Given as goal

abbrev pub invariant-loop-row : goal.invariant-loop-row
invariant-loop-row l = All (IsRow l.columns) (take l.row-index l.rows)
