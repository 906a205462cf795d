use Rattle.std.proofs.Common.{◌≡◌, [], take}
use Rattle.schema_catalog.specs.Tables.{table_names}
use Rattle.version_groups_tables.specs.Grouping.{by_table, grouped}
use Rattle.version_groups_tables.proofs.change_group.empty_groups.Given as goal

abbrev pub invariant-loop : goal.invariant-loop
invariant-loop l = grouped l.groups.items ≡ by_table (take l.counter (table_names l.schema)) []
