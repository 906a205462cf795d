-- Cuts in the order of rows.
pub use Rattle.history_store_row_order.specs.Cuts.{Cut, is_before, between}
