-- The fields of a scan of a column.
use Rattle.std.specs.Prelude.{◌≡◌, ℕ, ◌+◌, ◌<◌, ◌≤◌, List, [], ◌∷◌, ◌++◌, length, drop}
use Rattle.std.specs.Prelude.{slice_index_or}
use Rattle.relations_spec.specs.Spans.{Span}
use Rattle.history_store_columns.specs.Log.{Write}
use Rattle.history_store_columns.specs.declared.scan.CellScan.TheInside.{Inside as InsideScan}
use Rattle.history_store_columns.specs.StoredValues.{values_in}
use Rattle.history_store_columns.specs.StoredWrites.{writes_in, nexts_of}
use Rattle.history_store_columns.specs.Chains.{of_id, id_at, IsChain}
use Rattle.history_store_columns.specs.Entries.{with_ends, entries_from, Climbs, IsHistory}
use Rattle.history_store_spec.specs.Store.{Cell}
use Rattle.history_store_columns.specs.Keys.{no_span}

-- the entries of this id from a place on, and those of the ids after it
abbrev pub rest_of : ℕ → ℕ → List Span → List Write → List Cell
rest_of id at [] cells = []
rest_of id at (k ∷ keys) cells = with_ends k.end (of_id id (drop at cells))
    ++ entries_from (id + 1) keys cells

-- each write starts later than the one before it, and before the end
abbrev pub Goes : ℕ → List Write → Type 0
Goes to [] = Unit {0}
Goes to (c ∷ cells) = Climbs c.start to cells

pub record IsAt (id at : ℕ) (keys : List Span) (first next : List ℕ) (cells : List Write) :
    Type 0 where
  pub chain : IsChain first next cells
  pub each : length first ≡ length keys
  pub history : IsHistory keys cells
  pub within : id ≤ length keys
  pub here : id < length keys → (at < length cells) × (id_at cells at ≡ id)
      × Goes (slice_index_or keys id no_span).end (of_id id (drop at cells))

abbrev pub cells_left : InsideScan → List Cell
cells_left a = rest_of a.id a.at (drop a.id a.keys.now)
    (writes_in (values_in a.values.now) a.writes.now)

pub record IsCellScan (a : InsideScan) : Type 0 where
  pub each : length (values_in a.values.now) ≡ length a.writes.now
  pub here : IsAt a.id a.at a.keys.now a.first.now (nexts_of a.writes.now)
      (writes_in (values_in a.values.now) a.writes.now)
