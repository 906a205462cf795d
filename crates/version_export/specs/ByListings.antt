-- The commands of an export by the listings of its tables: at each moment at which an entry begins
-- or ends, what ends and what begins then, table by table.
use Rattle.std.specs.Prelude.{ℕ, Bool, ◌++◌, ◌&&◌, List, [], ◌∷◌, map, nat_lt}
use Rattle.std.specs.List.{filter, flat_map}
use Rattle.std.specs.Ordering.{nat_cmp}
use Rattle.relations_spec.specs.Sets.{set_of}
use Rattle.relations_spec.specs.Spans.{forever}
use Rattle.relations_spec.specs.Timed.{Entry}
use Rattle.schema_catalog.specs.Places.{NamedColumns}
use Rattle.smo_ops_types.specs.Changes.{PlainChange}
use Rattle.smo_ops_types.specs.Commands.{PlainCommand}
use Rattle.smo_ops_spec.specs.OneRow.{Row}
use Rattle.smo_ops_spec.specs.Past.{Past}
use Rattle.version_export_past_spec.specs.Rows.{ending, beginning}
use Rattle.version_export_past_spec.specs.Commands.{if_any}
use Rattle.version_export_past_spec.specs.Listed.{begun_at, ended_at}
use Rattle.version_export_past_spec.specs.Showing.{tables_in}
use Rattle.prima_base.specs.Timed.{entries_of}
use Rattle.version_export.specs.declared.seen_table.SeenTable.{SeenTable}
use Rattle.version_export.specs.Seen.{rows_listed}

-- a table and its listing
abbrev pub Listed : Type 0
Listed = NamedColumns × List (Entry Row)

abbrev pub all_listed : Past → ℕ → List Listed
all_listed past version = map (λ (t : NamedColumns). (t, rows_listed past version t))
    (tables_in past version)

abbrev pub listed_at : ℕ → Listed → List PlainChange
listed_at m l = map (ending l.0) (ended_at l.1 m) ++ map (beginning l.0) (begun_at l.1 m)

-- starts and ends
abbrev pub entry_moments : Entry Row → List ℕ
entry_moments e = e.period.start ∷ e.period.end ∷ []

abbrev pub listed_moments : Listed → List ℕ
listed_moments l = flat_map entry_moments l.1

-- after version 1, and before the end of time
abbrev pub moments_after : ℕ → List Listed → List ℕ
moments_after first listed = set_of nat_cmp
    (filter (λ m. nat_lt first m && nat_lt m forever) (flat_map listed_moments listed))

abbrev pub commands_listed : ℕ → List Listed → List PlainCommand
commands_listed first listed = flat_map (λ m. if_any m (flat_map (listed_at m) listed))
    (moments_after first listed)

-- the tables that an export has seen, as the listings that they are
abbrev pub listed_of : SeenTable → Listed
listed_of s = (s.table.now, entries_of s.rows.items)

abbrev pub all_listed_of : List SeenTable → List Listed
all_listed_of tables = map listed_of tables

-- the moment is after version 1, and before the end of time
abbrev pub is_later : ℕ → ℕ → Bool
is_later first m = nat_lt first m && nat_lt m forever
