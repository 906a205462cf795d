-- What a stamp writes: the lost rows hand their ids to the gained rows.
use Rattle.std.specs.Prelude.{ℕ, ◌+◌, ◌<◌, ◌≤◌, List, [], ◌∷◌, ◌++◌, length, if◌then◌else◌}
use Rattle.std.specs.Ordering.{nat_cmp, ordering_then}
use Rattle.std.specs.declared.cmp.Ordering.{Ordering}
use Rattle.relations_spec.specs.Sets.{set_of}
use Rattle.relations_spec.specs.Spans.{Span, forever, covers}
use Rattle.prima_base.specs.Order.{row_cmp}
use Rattle.prima_base.specs.declared.value.Value.{Value}
use Rattle.history_store_spec.specs.Store.{Cell, Store, row_at, AllBefore}
use Rattle.prima_base.specs.Columns.{Column, IsRelation}
use Rattle.history_store_writes.specs.Writing.{unpaired, keys_handed}
use Rattle.history_store_row_order.specs.Handing.{handed, only_in}
use Rattle.history_store_change_spec.specs.Handing.{IsHandOver}
use Rattle.history_store_writes.specs.RowRoom.{rows_room}
use Rattle.history_store_row_order.specs.Indexes.{Index, later_ids, more_ids, IsPlaced}
use Rattle.history_store_columns.specs.Puts.{close, write}

-- a change that was made ready: its stamp, the ids of the lost rows, the gained rows, and how the
-- ids of the rows after it come from those before it, both in the order of their rows
pub record PreparedChange : Type 0 where
  pub stamp : ℕ
  pub lost : List ℕ
  pub gained : List (List Value)
  pub after : Index

abbrev pub write_row : ℕ → List Value → ℕ → List (List Cell) → List (List Cell)
write_row id row stamp [] = []
write_row id [] stamp (c ∷ columns) = c ∷ columns
write_row id (v ∷ row) stamp (c ∷ columns) = write id v stamp c ∷ write_row id row stamp columns

-- the i-th row for the i-th id
abbrev pub write_rows : List ℕ → List (List Value) → ℕ → List (List Cell) → List (List Cell)
write_rows [] rows stamp columns = columns
write_rows (id ∷ ids) [] stamp columns = columns
write_rows (id ∷ ids) (row ∷ rows) stamp columns =
    write_rows ids rows stamp (write_row id row stamp columns)

abbrev pub close_each : List ℕ → ℕ → List Cell → List Cell
close_each [] stamp cells = cells
close_each (id ∷ ids) stamp cells = close_each ids stamp (close id stamp cells)

abbrev pub close_all : List ℕ → ℕ → List (List Cell) → List (List Cell)
close_all ids stamp [] = []
close_all ids stamp (c ∷ columns) = close_each ids stamp c ∷ close_all ids stamp columns

-- the keys and the entries that the change leads to
abbrev pub keys_after : Store → PreparedChange → List Span
keys_after s p = keys_handed s.keys p.lost p.gained p.stamp

abbrev pub cells_after : Store → PreparedChange → List (List Cell)
cells_after s p = close_all (unpaired p.lost p.gained) p.stamp
    (write_rows (handed p.lost (length s.keys) p.gained) p.gained p.stamp s.cells)

-- the ids whose keys hold at the moment
abbrev pub ids_from : ℕ → ℕ → List Span → List ℕ
ids_from id m [] = []
ids_from id m (k ∷ keys) = if covers k m then id ∷ ids_from (id + 1) m keys
    else ids_from (id + 1) m keys

-- by the rows of two ids at the moment, then by the ids
abbrev pub by_rows : ℕ → List (List Cell) → ℕ → ℕ → Ordering
by_rows m columns i j = ordering_then (row_cmp (row_at i m columns) (row_at j m columns))
    (nat_cmp i j)

-- the ids of the rows at the moment, in the order of their rows
unfoldable pub ids_at : Store → ℕ → List ℕ
ids_at s m = set_of (by_rows m s.cells) (ids_from 0 m s.keys)

-- the ids of the rows after the change
abbrev pub ids_after : Store → PreparedChange → List ℕ
ids_after s p = later_ids p.after (ids_at s p.stamp)

-- the rows of these ids at the moment
abbrev pub rows_along : List ℕ → ℕ → List (List Cell) → List (List Value)
rows_along [] m columns = []
rows_along (id ∷ ids) m columns = row_at id m columns ∷ rows_along ids m columns

-- the relation that the change leads to
unfoldable pub rows_after : Store → PreparedChange → List (List Value)
rows_after s p = rows_along (ids_after s p) p.stamp (cells_after s p)

-- the relation without the lost rows and with the gained ones
abbrev pub changed : List (List Value) → List (List Value) → List (List Value) → List (List Value)
changed rows lost gained = set_of row_cmp (only_in rows lost ++ gained)

-- the change was prepared from the store's keys and entries
pub record IsPrepared (s : Store) (p : PreparedChange) : Type 0 where
  pub before : AllBefore s p.stamp
  pub valid : p.stamp < forever
  pub placed : IsPlaced p.after (ids_at s p.stamp)
  pub more : more_ids p.after ≤ length p.gained
  pub hands : IsHandOver s.keys (length s.columns) p.lost p.gained (ids_after s p)
  pub relation : IsRelation s.columns (rows_after s p)
  pub room : rows_room p.gained ≤ s.spare

-- the columns without an entry
abbrev pub no_cells : List Column → List (List Cell)
no_cells [] = []
no_cells (c ∷ columns) = [] ∷ no_cells columns
