-- The past that an image shows: its versions, its last stamp, and at each moment the database that
-- its tables have then.
use Rattle.std.specs.Prelude.{ℕ, ◌+◌, ◌==◌, ◌&&◌, ◌||◌, not, List, [], ◌∷◌, ◌++◌, length, map}
use Rattle.std.specs.Prelude.{nat_lt, Bool, false, if◌then◌else◌}
use Rattle.std.specs.List.{filter, flat_map}
use Rattle.std.specs.FinMap.{from_entries}
use Rattle.std.specs.Ordering.{nat_cmp}
use Rattle.relations_spec.specs.Sets.{set_of}
use Rattle.relations_spec.specs.Spans.{Span, forever}
use Rattle.schema_catalog.specs.Databases.{Database, Rows, DatabaseEntry}
use Rattle.history_store_spec.specs.Store.{Cell, relation_at, weight}
use Rattle.smo_ops_types.specs.Commands.{PlainVersion}
use Rattle.smo_ops_spec.specs.Effects.{gained, lost}
use Rattle.smo_ops_spec.specs.Past.{State, a_state, Past, begun_at}
use Rattle.smo_ops_spec.specs.Sizes.{Written, Size, value_bytes}
use Rattle.smo_ops_versions_spec.specs.Lifelines.{covers}
use Rattle.store_image_spec.specs.Images.{StoredLine, Image, store_of}

-- ---- databases

-- the lifeline is one of version k
abbrev pub is_of_version : ℕ → StoredLine → Bool
is_of_version k l = covers k l.line

-- what its table has at the moment
abbrev pub table_at : ℕ → StoredLine → List ℕ × DatabaseEntry
table_at m l = (l.line.table, Rows (relation_at (store_of l) m))

-- the database at the moment: that of the version which is in force then
abbrev pub image_database : Image → ℕ → Database
image_database image m = from_entries (map (table_at m)
    (filter (is_of_version (length (begun_at m image.versions))) image.lines))

-- ---- states

-- the stamps at which keys and entries begin and end
abbrev pub stamps_of : Span → List ℕ
stamps_of p = p.start ∷ (if p.end == forever then [] else p.end ∷ [])

abbrev pub line_stamps : StoredLine → List ℕ
line_stamps l = flat_map stamps_of l.keys ++ flat_map
    (λ (column : List Cell). flat_map (λ (c : Cell). stamps_of c.period) column) l.cells

-- all of them and those of the versions, but for moment 0; ascending, each once
abbrev pub image_stamps : Image → List ℕ
image_stamps image = set_of nat_cmp (filter (λ m. nat_lt 0 m)
    (map (λ (v : PlainVersion). v.stamp) image.versions ++ flat_map line_stamps image.lines))

abbrev pub begins_at : List PlainVersion → ℕ → Bool
begins_at [] m = false
begins_at (v ∷ versions) m = v.stamp == m || begins_at versions m

-- a state for each stamp at which a version begins, or the database is another than before
abbrev pub states_along : Image → Database → List ℕ → List State
states_along image before [] = []
states_along image before (m ∷ stamps) =
    let now = image_database image m in
    if not (begins_at image.versions m) && gained before now + lost before now == 0
    then states_along image before stamps
    else a_state m now ∷ states_along image now stamps

abbrev pub image_states : Image → List State
image_states image =
    let beginning = image_database image 0 in
    a_state 0 beginning ∷ states_along image beginning (image_stamps image)

-- ---- sizes

abbrev pub cells_written : List Cell → Written
cells_written cells = record { cells = length cells; bytes = weight value_bytes cells }

abbrev pub line_size : StoredLine → Size
line_size l = record {
  table = l.line.table;
  first = l.line.first;
  last = l.line.last;
  keys =
      length l.keys;
  columns = map cells_written l.cells;
}

-- ---- the past

-- with so many commands before it
abbrev pub image_past : ℕ → Image → Past
image_past commands image = record {
  versions = image.versions;
  last = image.last;
  commands = commands;
  sizes = map line_size image.lines;
  states = image_states image;
}
