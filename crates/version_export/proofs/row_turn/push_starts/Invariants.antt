use Rattle.std.proofs.Common.{◌≡◌, ◌++◌, drop, map}
use Rattle.prima_base.specs.Timed.{entries_of}
use Rattle.version_export.specs.Turns.{turn_of, later_turns, start_turns}
use Rattle.version_export.proofs.row_turn.push_starts.Given as goal

abbrev pub invariant-loop-row : goal.invariant-loop-row
invariant-loop-row l = map turn_of l.turns.items
    ++ later_turns l.first (start_turns (l.table, entries_of (drop l.row-index l.rows)))
    ≡ map turn_of l.initial.turns.items
    ++ later_turns l.first (start_turns (l.table, entries_of l.rows))
