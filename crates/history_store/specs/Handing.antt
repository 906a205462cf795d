-- The lost rows hand their ids to the gained rows.
pub use Rattle.history_store_columns.specs.Puts.{is_value}
pub use Rattle.history_store_row_order.specs.Rows.{AllWidth}
pub use Rattle.history_store_row_order.specs.Handing.{handed, only_in}
pub use Rattle.history_store_writes.specs.Writing.{unpaired}
pub use Rattle.history_store_change_spec.specs.Handing.{at_column, is_same, weigh, written}
