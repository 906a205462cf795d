-- The commands that make what tables show at each moment: one at each moment at which a row begins
-- or ends to hold.
use Rattle.std.specs.Prelude.{ℕ, ◌-◌, List, [], ◌∷◌}
use Rattle.std.specs.List.{flat_map}
use Rattle.schema_catalog.specs.Places.{NamedColumns}
use Rattle.schema_catalog.specs.Databases.{Database}
use Rattle.smo_ops_types.specs.Changes.{PlainChange}
use Rattle.smo_ops_types.specs.Commands.{PlainBody, changing, PlainCommand}
use Rattle.version_export_past_spec.specs.Rows.{changes_between}

abbrev pub a_command : ℕ → PlainBody → PlainCommand
a_command stamp body = record { stamp = stamp; body = body }

-- no command where nothing begins or ends
abbrev pub if_any : ℕ → List PlainChange → List PlainCommand
if_any stamp [] = []
if_any stamp (c ∷ changes) = a_command stamp (changing (c ∷ changes)) ∷ []

-- at a moment, by the databases of the moment before and of the moment itself
abbrev pub commands_at : List NamedColumns → (ℕ → Database) → ℕ → List PlainCommand
commands_at tables shown m = if_any m (changes_between tables (shown (m - 1)) (shown m))

abbrev pub row_commands : List NamedColumns → (ℕ → Database) → List ℕ → List PlainCommand
row_commands tables shown moments = flat_map (commands_at tables shown) moments
