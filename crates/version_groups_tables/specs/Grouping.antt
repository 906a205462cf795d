-- The changes of a command, grouped by the tables that they are of.
use Rattle.std.specs.Prelude.{ℕ, List, map}
use Rattle.std.specs.Borrow.{Bor}
use Rattle.std.specs.Global.{Vec}
use Rattle.std.specs.List.{filter}
use Rattle.smo_ops_types.specs.Changes.{PlainChange, table_of}
use Rattle.smo_ops_types.specs.declared.change.Change.{Change}
use Rattle.smo_ops_spec.specs.OneRow.{same}
use Rattle.version_groups_changes.specs.Changing.{borrowed_changes}

-- those of the table with this name, in order
abbrev pub of_table : List ℕ → List PlainChange → List PlainChange
of_table name changes = filter (λ change. same (table_of change) name) changes

-- for each of these names, those of its table
abbrev pub by_table : List (List ℕ) → List PlainChange → List (List PlainChange)
by_table names changes = map (λ name. of_table name changes) names

-- groups of changes that are borrowed
abbrev pub grouped : List (Vec (Bor Change)) → List (List PlainChange)
grouped groups = map (λ (group : Vec (Bor Change)). borrowed_changes group.items) groups
