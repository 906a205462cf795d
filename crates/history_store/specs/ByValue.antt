-- The rows with one value.
pub use Rattle.history_store_change_spec.specs.ByValue.{rows_with}
