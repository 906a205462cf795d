use Rattle.std.proofs.Common.{◌<◌, take}
use Rattle.relations_spec.specs.Sets.{In}
use Rattle.prima_base.specs.declared.timed_row.TimedRow.{TimedRow}
use Rattle.query_exec.proofs.piece.have_moments.Given as goal

abbrev pub invariant-loop-i : goal.invariant-loop-i
invariant-loop-i l = (row : TimedRow) → In row (take l.i l.rows.items)
    → row.period.start < row.period.end
