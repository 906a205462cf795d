-- How much is stored of each table over its lifeline.
use Rattle.std.specs.Prelude.{◌≡◌, ℕ, ◌<◌, List, [], length, slice_index_or}
use Rattle.std.specs.Option.{unwrap_or}
use Rattle.history_store.specs.Store.{Cell, Store, weight}
use Rattle.smo_ops_spec.specs.Sizes.{Written, Size, cells_in, none_written, value_bytes}
use Rattle.version_groups_tables.specs.declared.made_table.MadeTable.{MadeTable}
use Rattle.version_groups.specs.declared.size.SizeLine.{SizeLine}

-- a column has so many cells, and their values so many bytes
pub record IsWritten (written : Written) (cells : List Cell) : Type 0 where
  pub count : length cells ≡ written.cells
  pub bytes : weight value_bytes cells ≡ written.bytes

pub record AreWritten (columns : List Written) (cells : List (List Cell)) : Type 0 where
  pub count : length cells ≡ length columns
  pub each : (k : ℕ) → k < length columns → IsWritten (slice_index_or columns k none_written)
      (slice_index_or cells k [])

-- the table of a lifeline, and how much is stored of it
pub record HasSize (size : Size) (table : MadeTable) : Type 0 where
  pub name : table.name ≡ size.table
  pub first : table.first ≡ size.first
  pub last : table.last ≡ size.last
  pub keys : length table.store.keys ≡ size.keys
  pub columns : AreWritten size.columns table.store.cells

-- just so many keys and cells are stored as the size says
pub record KeepsSize (size : Size) (store : Store) : Type 0 where
  pub keys : length store.keys ≡ size.keys
  pub columns : AreWritten size.columns store.cells

-- one table for each lifeline, in their order
pub record HaveSizes (sizes : List Size) (tables : List MadeTable) : Type 0 where
  pub count : length tables ≡ length sizes
  pub each : (k : ℕ) → (s : Size) → (t : MadeTable) → k < length sizes
      → HasSize (slice_index_or sizes k s) (slice_index_or tables k t)

-- a line says how much is stored over a lifeline, where this version is the newest
pub record IsLineOf (newest : ℕ) (size : Size) (line : SizeLine) : Type 0 where
  pub table : line.table.now ≡ size.table
  pub first : line.first ≡ size.first
  pub last : line.last ≡ unwrap_or size.last newest
  pub keys : line.keys ≡ size.keys
  pub cells : line.cells ≡ cells_in size.columns
