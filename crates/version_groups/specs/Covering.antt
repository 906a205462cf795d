-- The stored tables of versions, over their lifelines.
use Rattle.std.specs.Prelude.{◌≡◌, ℕ, ◌<◌, ◌≤◌, true, List, [], map, length, Some, slice_get}
use Rattle.std.specs.Prelude.{slice_index_or}
use Rattle.relations_spec.specs.Sets.{In}
use Rattle.version_groups_tables.specs.declared.made_table.MadeTable.{MadeTable}
use Rattle.version_groups.specs.Groups.{Kept, versions_in}
use Rattle.version_groups.specs.Lifelines.{Lifeline, lifelines_of, covers}

-- the lifeline over which a table is stored
abbrev pub line_of : MadeTable → Lifeline
line_of t = record { table = t.name; first = t.first; last = t.last; columns = t.store.columns }

-- each lifeline begins with version n or before, and one that has ended has ended before it; each
-- version up to it has the tables of just the lifelines that cover it, which stand at its places,
-- and of each name at most one
pub record AreCovered (lines : List Lifeline) (n : ℕ) (places : List (List ℕ)) : Type 0 where
  pub begun : (p : ℕ) → (l : Lifeline) → slice_get lines p ≡ Some l → l.first ≤ n
  pub ended : (p : ℕ) → (l : Lifeline) → (last : ℕ) → slice_get lines p ≡ Some l
      → l.last ≡ Some last → last < n
  pub there : (k p : ℕ) → (l : Lifeline) → k ≤ n → slice_get lines p ≡ Some l → covers k l ≡ true
      → In p (slice_index_or places k [])
  pub covered : (k p : ℕ) → (l : Lifeline) → k ≤ n → slice_get lines p ≡ Some l
      → In p (slice_index_or places k []) → covers k l ≡ true
  pub one : (k p q : ℕ) → (l m : Lifeline) → k ≤ n → slice_get lines p ≡ Some l
      → slice_get lines q ≡ Some m → l.table ≡ m.table
      → covers k l ≡ true → covers k m ≡ true → p ≡ q

-- one table is stored for each lifeline of the versions, in their order, and each version has the
-- tables of the lifelines that cover it
pub record AreOfLifelines (kept : Kept) : Type 0 where
  pub lines : map line_of kept.stored ≡ lifelines_of (versions_in kept)
  pub places : AreCovered (map line_of kept.stored) (length kept.versions) kept.places
