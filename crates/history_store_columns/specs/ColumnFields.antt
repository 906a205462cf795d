-- The fields of a column.
use Rattle.std.specs.Prelude.{◌≡◌, ℕ, ◌-◌, ◌^◌, ◌<◌, ◌≤◌, min, List, [], ◌∷◌, length, slice_index}
use Rattle.std.specs.Prelude.{slice_index_or, vec_len, vec_capacity}
use Rattle.history_store_columns.specs.Log.{Log, Write, newest}
use Rattle.history_store_columns.specs.declared.column.Column.TheInside.{Inside}
use Rattle.history_store_columns.specs.Chains.{IsLinked}
use Rattle.history_store_columns.specs.StoredValues.{kind_of, values_in, places_in, bytes_in}
use Rattle.history_store_columns.specs.StoredValues.{spare_in}
use Rattle.history_store_columns.specs.StoredWrites.{writes_in, nexts_of}

-- for how many writes more there is a place beside their values: for no more than numbers of 32
-- bits can name
abbrev pub links_left : Inside → ℕ
links_left a = min (2 ^ 32 - 1 - vec_len a.writes) (min (vec_capacity a.writes - vec_len a.writes)
    (min (vec_capacity a.first - vec_len a.first) (vec_capacity a.last - vec_len a.last)))

abbrev pub column_log : Inside → Log
column_log a = record {
  kind = kind_of a.values;
  ids = vec_len a.last;
  cells = writes_in (values_in a.values) a.writes.items;
  places = min (places_in a.values) (links_left a);
  bytes = bytes_in a.values;
  spare = min (spare_in a.values) (links_left a);
}

-- each id's newest cell stands where `last` says
pub record IsIndex (last : List ℕ) (cells : List Write) : Type 0 where
  pub within : (id : ℕ) → id < length last → slice_index last id < length cells
  pub found : (id : ℕ) (d : Write) → id < length last
      → newest id cells ≡ (slice_index_or cells (slice_index last id) d).value ∷ []
  pub none : (id : ℕ) → length last ≤ id → newest id cells ≡ []

pub record IsColumn (a : Inside) : Type 0 where
  pub each : length (values_in a.values) ≡ length a.writes.items
  pub few : length a.last.items ≤ length a.writes.items
  pub index : IsIndex a.last.items (writes_in (values_in a.values) a.writes.items)
  pub linked : IsLinked a.first.items (nexts_of a.writes.items) a.last.items
      (writes_in (values_in a.values) a.writes.items)
