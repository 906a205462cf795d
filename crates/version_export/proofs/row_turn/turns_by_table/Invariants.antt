use Rattle.std.proofs.Common.{◌≡◌, ◌++◌, drop, map}
use Rattle.version_export.specs.ByListings.{all_listed_of}
use Rattle.version_export.specs.Turns.{turn_of, turns_of}
use Rattle.version_export.proofs.row_turn.turns_by_table.Given as goal

abbrev pub invariant-loop-table : goal.invariant-loop-table
invariant-loop-table l = map turn_of l.turns.items
    ++ turns_of l.first (all_listed_of (drop l.table-index l.tables))
    ≡ turns_of l.first (all_listed_of l.tables)
