use Rattle.std.proofs.Common.{◌≡◌, take}
use Rattle.schema_catalog.specs.Tables.{table_names}
use Rattle.smo_ops_types.specs.Changes.{changes_of}
use Rattle.version_groups_tables.specs.Grouping.{by_table, grouped}
use Rattle.version_groups_tables.proofs.change_group.changes_by_table.Given as goal

abbrev pub invariant-loop-i : goal.invariant-loop-i
invariant-loop-i l = grouped l.groups.items
    ≡ by_table (table_names l.schema) (changes_of (take l.i l.changes))
