-- What a stamp writes, and what a prepared change makes of a table.
unfoldable pub use Rattle.history_store_change_spec.specs.Change.{rows_after}
pub use Rattle.history_store_change_spec.specs.Change.{PreparedChange, IsPrepared, write_row}
pub use Rattle.history_store_change_spec.specs.Change.{write_rows}
pub use Rattle.history_store_change_spec.specs.Change.{close_all}
pub use Rattle.history_store_change_spec.specs.Change.{cells_after, ids_from, rows_along, changed}
