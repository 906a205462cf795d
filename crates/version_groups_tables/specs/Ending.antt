-- Lifelines that end.
use Rattle.std.specs.Prelude.{◌≡◌, ℕ, ◌<◌, Bool, true, List, length, Some, None, slice_index_or}
use Rattle.relations_spec.specs.Sets.{In}
use Rattle.smo_ops_versions_spec.specs.Lifelines.{last_after}
use Rattle.version_groups_tables.specs.declared.made_table.MadeTable.{MadeTable}

-- a lifeline lives just where its table is one of the newest version's, which stand at these places
pub record AreLiving (tables : List MadeTable) (newest : List ℕ) : Type 0 where
  pub living : (p : ℕ) → (t : MadeTable) → p < length tables → In p newest
      → (slice_index_or tables p t).last ≡ None
  pub among : (p : ℕ) → (t : MadeTable) → p < length tables
      → (slice_index_or tables p t).last ≡ None → In p newest

-- the lifeline of a table that lives ends with version k where the next operator consumes it
abbrev pub table_after : (List ℕ → Bool) → ℕ → MadeTable → MadeTable
table_after consumed k t = record {
  name = t.name;
  first = t.first;
  last =
      last_after (consumed t.name) k t.last;
  store = t.store;
}

-- the tables at these places live, or have ended with version k; no other table lives
pub record AreEnding (k : ℕ) (tables : List MadeTable) (places : List ℕ) : Type 0 where
  pub ending : (p : ℕ) → (t : MadeTable) → p < length tables → In p places
      → last_after true k (slice_index_or tables p t).last ≡ Some k
  pub among : (p : ℕ) → (t : MadeTable) → p < length tables
      → (slice_index_or tables p t).last ≡ None → In p places
