use Rattle.std.proofs.Common.{◌≡◌, ◌++◌, drop}
use Rattle.version_export.specs.Statements.{then_creates}
use Rattle.version_export.specs.Written.{tables_seen}
use Rattle.version_export.proofs.creation.write_more_creates.Given as goal

abbrev pub invariant-loop-table : goal.invariant-loop-table
invariant-loop-table l = l.out.items ++ then_creates (tables_seen (drop l.table-index l.tables))
    ≡ l.initial.out.items ++ then_creates (tables_seen l.tables)
