-- What contracts above say of stored tables, passed on.
pub use Rattle.version_groups_tables.specs.NewestTables.{rows_stored}
pub use Rattle.version_groups_tables.specs.Places.{at_places, with_table}
pub use Rattle.version_groups_tables.specs.Restoring.{stores_of}
pub use Rattle.version_groups_tables.specs.Stored.{stored_as}
pub use Rattle.version_groups_tables.specs.declared.made_table.MadeTable.{MadeTable}
