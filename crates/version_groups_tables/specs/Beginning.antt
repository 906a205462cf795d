-- The tables that begin with a version, and the places of all that are its.
use Rattle.std.specs.Prelude.{◌≡◌, ℕ, ◌+◌, ◌<◌, ◌≤◌, Bool, true, false, List, [], length, None}
use Rattle.std.specs.Prelude.{is_some, slice_index_or}
use Rattle.std.specs.FinMap.{get}
use Rattle.relations_spec.specs.Sets.{In}
use Rattle.prima_base.specs.declared.value.Value.{Value}
use Rattle.prima_base.specs.Columns.{Column}
use Rattle.schema_catalog.specs.Tables.{Tables}
use Rattle.history_store.specs.Store.{weight, AllBefore}
use Rattle.history_store.specs.Handing.{written}
use Rattle.smo_ops_spec.specs.OneRow.{Relation}
use Rattle.version_groups_tables.specs.declared.made_table.MadeTable.{MadeTable}

-- the table that is made with this name and these columns begins with a version, with the rows that
-- the name has: each is a key, and writes its values, and no stamp in it is later
pub record BeginsWith (version stamp : ℕ) (rows : List ℕ → Relation) (made : List ℕ × List Column)
    (table : MadeTable) : Type 0 where
  pub name : table.name ≡ made.0
  pub first : table.first ≡ version
  pub last : table.last ≡ None
  pub columns : table.store.columns ≡ made.1
  pub keys : length table.store.keys ≡ length (rows made.0)
  pub count : length table.store.cells ≡ length made.1
  pub written : (f : Value → ℕ) → (k : ℕ) → k < length made.1
      → weight f (slice_index_or table.store.cells k []) ≡ written f k [] (rows made.0)
  pub later : (m : ℕ) → stamp < m → AllBefore table.store m

-- one table begins for each that is made, in their order, and is as it is to be
pub record BeginInOrder (Is : List ℕ × List Column → MadeTable → Type 0)
    (made : List (List ℕ × List Column)) (begun : List MadeTable) : Type 0 where
  pub count : length begun ≡ length made
  pub each : (k : ℕ) → (m : List ℕ × List Column) → (t : MadeTable) → k < length made
      → Is (slice_index_or made k m) (slice_index_or begun k t)

-- the places of the next version's tables among all that are stored and those that begin: those of
-- the tables that the version before has at its places, that are in the next schema and not made,
-- and of all that begin
pub record ArePlaced (stored begun : List MadeTable) (places : List ℕ) (is_made : List ℕ → Bool)
    (next : Tables) (own : List ℕ) : Type 0 where
  pub went_on : (p : ℕ) → (t : MadeTable) → p < length stored → In p own → In p places
      × (is_made (slice_index_or stored p t).name ≡ false)
  pub go_on : (p : ℕ) → (t : MadeTable) → p < length stored → In p places
      → is_some (get next (slice_index_or stored p t).name) ≡ true
      → is_made (slice_index_or stored p t).name ≡ false → In p own
  pub begin : (p : ℕ) → length stored ≤ p → p < length stored + length begun → In p own
