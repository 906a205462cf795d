-- Stored tables by their names.
use Rattle.std.specs.Prelude.{ℕ, List, [], ◌∷◌, Option, Some, None, ⊤, if◌then◌else◌}
use Rattle.prima_base.specs.Columns.{Column}
use Rattle.history_store.specs.Store.{Store}
use Rattle.smo_ops_spec.specs.OneRow.{same}
use Rattle.version_groups_tables.specs.declared.made_table.MadeTable.{MadeTable}

-- what is stored under the name
abbrev pub stored_as : List ℕ → List MadeTable → Option Store
stored_as name [] = None
stored_as name (t ∷ tables) = if same t.name name then Some t.store else stored_as name tables

abbrev pub stored_names : List MadeTable → List (List ℕ)
stored_names [] = []
stored_names (t ∷ tables) = t.name ∷ stored_names tables

-- a table is stored just where there is one with these columns, and is as it is to be by them
abbrev pub HasEntry : (List Column → Store → Type 0) → Option (List Column) → Option Store → Type 0
HasEntry Is None None = ⊤
HasEntry Is None (Some store) = ⊥
HasEntry Is (Some columns) None = ⊥
HasEntry Is (Some columns) (Some store) = Is columns store
