-- What is so of the keys, the writes and the live ids of a table.
use Rattle.std.specs.Prelude.{◌≡◌, ℕ, ◌<◌, List, length, slice_index_or}
use Rattle.relations_spec.specs.Sets.{In}
use Rattle.relations_spec.specs.Spans.{Span, forever}
use Rattle.history_store_columns.specs.Log.{Write}
use Rattle.history_store_change_spec.specs.Entries.{all_entries, AreHistories}
use Rattle.prima_base.specs.Columns.{Column, AreColumns, IsRow}
use Rattle.history_store_spec.specs.Store.{Store, IsPeriod, Holds}
use Rattle.history_store_change_spec.specs.Table.{row_then, IsStored}
use Rattle.history_store_row_order.specs.Rows.{row_now}
use Rattle.history_store_columns.specs.Keys.{no_span}

-- what contracts see of the columns, the keys and the writes
abbrev pub store_of : List Column → List Span → List (List Write) → ℕ → List ℕ → Store
store_of columns keys logs spare indexed = record {
  columns = columns;
  keys = keys;
  cells =
      all_entries keys logs;
  spare = spare;
  indexed = indexed;
}

-- the entries of each id fill its key, and `live` has the ids of the current rows in the order of
-- their rows; at each moment, as now, each id has a row of the columns, and no two have the same
pub record IsKept (columns : List Column) (keys : List Span) (logs : List (List Write))
    (live : List ℕ) : Type 0 where
  pub names : AreColumns columns
  pub width : length logs ≡ length columns
  pub histories : AreHistories keys logs
  pub stored : IsStored keys logs live forever
  pub fitting : (id : ℕ) → In id live → IsRow columns (row_now id logs)
  pub lasting : (id : ℕ) → id < length keys → IsPeriod (slice_index_or keys id no_span)
  pub fitted : (m id : ℕ) → Holds keys id m → IsRow columns (row_then id m logs)
  pub apart : (m i j : ℕ) → Holds keys i m → Holds keys j m → row_then i m logs ≡ row_then j m logs
      → i ≡ j
