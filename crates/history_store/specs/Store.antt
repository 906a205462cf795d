-- What a stored table keeps, and the relation that it stands for at each moment.
unfoldable pub use Rattle.history_store_spec.specs.Store.{relation_at}
pub use Rattle.history_store_spec.specs.Store.{Cell, Store, cells_in, weight, shown_at, row_at}
pub use Rattle.history_store_spec.specs.Store.{rows_from, Fills, IsPeriod, cell_cmp, IsFilled}
pub use Rattle.history_store_spec.specs.Store.{Holds}
pub use Rattle.history_store_spec.specs.Store.{IsStore, named, column_of, IsBefore, AllBefore}
pub use Rattle.prima_base.specs.Columns.{Column, has_type, IsRow, IsRelation, names_of, AreColumns}
