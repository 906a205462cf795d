-- The image of an archive's groups.
use Rattle.std.specs.Prelude.{◌≡◌, ◌<◌, ◌^◌, ℕ, List, [], ◌∷◌, length, map, Option, All, ⊤}
use Rattle.relations_spec.specs.Sets.{In}
use Rattle.prima_base.specs.Columns.{IsValid}
use Rattle.history_store_spec.specs.Store.{Cell, Store, IsStore}
use Rattle.smo_ops_types.specs.Commands.{PlainVersion, evolving}
use Rattle.smo_ops_spec.specs.Past.{Past}
use Rattle.command_codec_spec.specs.Valid.{IsWritableBody, BodyNamed}
use Rattle.smo_ops_versions_spec.specs.Lifelines.{Lifeline}
use Rattle.history_store.specs.Restoring.{IsInOrder}
use Rattle.store_image_reader.specs.Seen.{stored_seen, cells_seen}
use Rattle.store_image_reader.specs.declared.line.ReadLine.{ReadLine}
use Rattle.version_groups.specs.StoredTables.{MadeTable}
use Rattle.version_groups.specs.Covering.{line_of}
use Rattle.version_groups.specs.Groups.{Kept, versions_in}
use Rattle.store_image_spec.specs.Images.{StoredLine, Image, IsImage, VersionsNamed, store_of}
use Rattle.store_image_spec.specs.Encoding.{image_bytes}
use Rattle.store_image_spec.specs.ShownPast.{image_past}
use Rattle.store_image_spec.specs.Lengths.{image_length}

-- what is kept over a lifeline
abbrev pub kept_line : MadeTable → StoredLine
kept_line t = record { line = line_of t; keys = t.store.keys; cells = t.store.cells }

-- the image of groups with this last stamp
abbrev pub image_in : Kept → Option ℕ → Image
image_in kept last = record {
  last = last;
  versions = versions_in kept;
  lines =
      map kept_line kept.stored;
}

abbrev pub AreValid : List Cell → Type 0
AreValid cells = (c : Cell) → In c cells → IsValid c.value

-- the values of a column's entries are valid, and their count is a number of 64 bits
pub record ColumnHolds (cells : List Cell) : Type 0 where
  pub values : AreValid cells
  pub few : length cells < 2 ^ 64

-- what is stored makes a table of valid values, and its counts are numbers of 64 bits
pub record TableHolds (t : MadeTable) : Type 0 where
  pub store : IsStore t.store
  pub few : length t.store.keys < 2 ^ 64
  pub columns : All ColumnHolds t.store.cells

-- the names and constants in the version's operator, and in those of its inverse, are valid ones
abbrev pub IsNamed : PlainVersion → Type 0
IsNamed v = BodyNamed (evolving v.op v.inverse)

-- so are those of all versions of the groups, and each of their tables is valid
pub record GroupsHold (kept : Kept) : Type 0 where
  pub named : VersionsNamed (versions_in kept)
  pub tables : All TableHolds kept.stored

-- an image that shows just this past, and has as many bytes as it says
pub record IsImageOf (past : Past) (image : Image) : Type 0 where
  pub valid : IsImage image
  pub shows : image_past past.commands image ≡ past
  pub length : length (image_bytes image) ≡ image_length past

-- the counts of the version's operator and of its inverse fit their fields
abbrev pub CanBeWritten : PlainVersion → Type 0
CanBeWritten v = IsWritableBody (evolving v.op v.inverse)

-- ---- made again

-- what was read over a lifeline makes a table of valid values, and the ids of its current rows
-- stand in the order of the rows
pub record CanBeMade (line : Lifeline) (l : ReadLine) : Type 0 where
  pub table : IsStore (store_of (stored_seen line l))
  pub values : All (All (λ (c : Cell). IsValid c.value)) (cells_seen l.cells.items)
  pub order : IsInOrder l.keys.items (cells_seen l.cells.items) l.order.items

-- over each of these lifelines
abbrev pub CanAllBeMade : List Lifeline → List ReadLine → Type 0
CanAllBeMade [] lines = ⊤
CanAllBeMade (line ∷ due) [] = ⊤
CanAllBeMade (line ∷ due) (l ∷ lines) = CanBeMade line l × CanAllBeMade due lines

-- a table without room for more, and without an index
abbrev pub bare : Store → Store
bare s = record { columns = s.columns; keys = s.keys; cells = s.cells; spare = 0; indexed = [] }
