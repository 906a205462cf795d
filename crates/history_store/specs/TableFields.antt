-- The fields of a table.
use Rattle.std.specs.Prelude.{◌≡◌, ◌-◌, ◌^◌, ◌<◌, [], length, All, vec_len, vec_capacity}
use Rattle.history_store.specs.declared.table.StoredTable.TheInside.{Inside}
use Rattle.history_store_row_order.specs.Logs.{cells_of, few_of}
use Rattle.history_store_writes.specs.Logs.{kinds_of, types_of, spare_rows}
use Rattle.history_store_writes.specs.ValueIndexes.{indexed_columns, least_room, IsIndexed}
use Rattle.history_store.specs.Store.{Store, cells_in}
use Rattle.history_store_change_spec.specs.Kept.{store_of, IsKept}

abbrev pub table_view : Inside → Store
table_view a = store_of a.columns.items a.keys.items (cells_of a.logs.items)
    (spare_rows (few_of (length a.live.ids)) (least_room a.live.room a.others.items)
    (vec_capacity a.keys - vec_len a.keys) a.logs.items) (indexed_columns a.others.items)

pub record IsTable (a : Inside) : Type 0 where
  pub kept : IsKept a.columns.items a.keys.items (cells_of a.logs.items) a.live.ids
  pub ids : All (λ c. c.ids ≡ length a.keys.items) a.logs.items
  -- each column keeps values of its type
  pub kinds : kinds_of a.logs.items ≡ types_of a.columns.items
  -- the number of all cells is a number of 64 bits
  pub counted : cells_in (cells_of a.logs.items) < 2 ^ 64
  -- each other index has the ids of the current rows in the order of its column
  pub others : All (IsIndexed (cells_of a.logs.items) a.live.ids []) a.others.items
