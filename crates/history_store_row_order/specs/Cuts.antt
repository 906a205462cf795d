-- Cuts in the order of rows, by the values that rows begin with.
use Rattle.std.specs.Prelude.{◌≡◌, ℕ, ◌-◌, ◌<◌, ◌≤◌, Bool, not, ◌&&◌, List, length, take, drop}
use Rattle.std.specs.Prelude.{if◌then◌else◌, slice_index_or}
use Rattle.std.specs.List.{filter}
use Rattle.std.specs.Ordering.{is_lt, is_le}
use Rattle.relations_spec.specs.Sets.{In}
use Rattle.prima_base.specs.Order.{row_cmp}
use Rattle.prima_base.specs.declared.value.Value.{Value}
use Rattle.history_store_columns.specs.Log.{Log}
use Rattle.history_store_row_order.specs.Logs.{cells_of}
use Rattle.history_store_row_order.specs.Rows.{row_now, rows_of}
use Rattle.history_store_row_order.specs.declared.cut.BorrowedRows.TheInside.{Inside as InsideRows}

-- before all rows that begin with these values, or after all of them
pub record Cut : Type 0 where
  pub values : List Value
  pub after : Bool

-- the row is before the cut
abbrev pub is_before : Cut → List Value → Bool
is_before c row = if c.after then is_le (row_cmp (take (length c.values) row) c.values)
    else is_lt (row_cmp (take (length c.values) row) c.values)

-- the rows from the one cut to the other
abbrev pub between : Cut → Cut → List (List Value) → List (List Value)
between from to rows = filter (λ row. not (is_before from row) && is_before to row) rows

-- the rows that are borrowed
abbrev pub borrowed_rows : InsideRows → List (List Value)
borrowed_rows a = rows_of (take (a.end - a.start) (drop a.start a.index.now.ids))
    (cells_of a.columns.now)

-- each column has one value of each of them
pub record AreBorrowed (a : InsideRows) : Type 0 where
  pub order : a.start ≤ a.end
  pub within : a.end ≤ length a.index.now.ids
  pub known : (id : ℕ) → In id a.index.now.ids → (k : ℕ) (d : Log) → k < length a.columns.now
      → id < (slice_index_or a.columns.now k d).ids
  pub whole : (id : ℕ) → In id a.index.now.ids
      → length (row_now id (cells_of a.columns.now)) ≡ length a.columns.now
