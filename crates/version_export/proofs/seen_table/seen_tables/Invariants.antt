use Rattle.std.proofs.Common.{take}
use Rattle.smo_ops_spec.specs.Past.{Past}
use Rattle.version_export.specs.SeenTables.{AllShow}
use Rattle.version_export_past_spec.specs.Showing.{tables_in}
use Rattle.version_export.proofs.seen_table.seen_tables.Given as goal

abbrev pub invariant-loop-place : goal.invariant-loop-place
invariant-loop-place g l = (past : Past) → g.S.Seen.shows l.seen past
    → AllShow past l.version (take l.place (tables_in past l.version)) l.tables.items
