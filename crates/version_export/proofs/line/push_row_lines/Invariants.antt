use Rattle.std.proofs.Common.{◌-◌, ◌≤◌, length, drop}
use Rattle.version_export.proofs.RunLaws.{LinesTo}
use Rattle.version_export.proofs.line.push_row_lines.Given as goal

abbrev pub invariant-moments : goal.invariant-moments
invariant-moments l = record {
  within : l.start ≤ length l.fn.turns;
  lines : LinesTo l.fn.turns l.fn.lines.items (drop l.start l.fn.turns) l.lines.items;
}

abbrev pub decreases-moments : goal.decreases-moments
decreases-moments l = length l.fn.turns - l.start
