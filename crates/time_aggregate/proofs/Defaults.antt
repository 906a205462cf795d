-- A row where there is none.
use Rattle.std.proofs.Common.{[], arith}
use Rattle.relations_spec.specs.Spans.{span}
use Rattle.prima_base.specs.declared.timed_row.TimedRow.{TimedRow}
use Rattle.prima_base_rows.specs.Rows.{vec_of}

abbrev pub no_row : TimedRow
no_row = record { values = vec_of [] (omega arith); period = span 0 0 }
