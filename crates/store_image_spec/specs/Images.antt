-- A store image: the versions of an archive and what it keeps of each table, at one moment of its
-- life. A reader of the image needs no command before it.
use Rattle.std.specs.Prelude.{◌≡◌, ◌⊎◌, ℕ, ◌<◌, ◌≤◌, ◌^◌, List, [], ◌∷◌, length, map, Option, Some}
use Rattle.std.specs.Prelude.{None, ⊤}
use Rattle.relations_spec.specs.Sets.{In}
use Rattle.relations_spec.specs.Spans.{Span, forever}
use Rattle.prima_base.specs.Columns.{IsValid}
use Rattle.prima_base.specs.Limits.{max_versions}
use Rattle.history_store_spec.specs.Store.{Cell, Store, IsStore}
use Rattle.smo_ops_types.specs.Commands.{evolving, PlainVersion}
use Rattle.smo_ops_spec.specs.ValidPast.{last_or_nought, AllInForce, AreVersions}
use Rattle.smo_ops_spec.specs.Past.{no_tables}
use Rattle.command_codec_spec.specs.Valid.{BodyNamed, HaveOneMember}
use Rattle.smo_ops_versions_spec.specs.Lifelines.{Lifeline, lifelines_of}

-- what is kept of a table over a lifeline of it: the period of each key, whose id is its place, and
-- the entries of each column, in the order of the columns' names
pub record StoredLine : Type 0 where
  pub line : Lifeline
  pub keys : List Span
  pub cells : List (List Cell)

-- the stamp of the last accepted command, the versions, and what is kept over each lifeline
pub record Image : Type 0 where
  pub last : Option ℕ
  pub versions : List PlainVersion
  pub lines : List StoredLine

-- the lifelines, by first version and then name
abbrev pub lines_in : Image → List Lifeline
lines_in image = map (λ (l : StoredLine). l.line) image.lines

-- a table that keeps this, without room for more and without an index of a column
abbrev pub store_of : StoredLine → Store
store_of l = record {
  columns = l.line.columns;
  keys = l.keys;
  cells = l.cells;
  spare = 0;
  indexed =
      [];
}

-- ---- what holds of an image

-- no stamp is later than the last, but for the end of what still holds
abbrev pub IsUpTo : Option ℕ → ℕ → Type 0
IsUpTo last moment = (moment ≡ forever) ⊎ ((m : ℕ) × (last ≡ Some m) × (moment ≤ m))

abbrev pub EndsUpTo : Option ℕ → Span → Type 0
EndsUpTo last p = IsUpTo last p.start × IsUpTo last p.end

-- what is kept over a lifeline makes a table, and the count of its keys, and that of each column's
-- entries, are numbers of 64 bits
pub record IsStoredLine (last : Option ℕ) (l : StoredLine) : Type 0 where
  pub store : IsStore (store_of l)
  pub values : (cells : List Cell) → In cells l.cells → (c : Cell) → In c cells → IsValid c.value
  pub keys : (p : Span) → In p l.keys → EndsUpTo last p
  pub entries : (cells : List Cell) → In cells l.cells → (c : Cell) → In c cells
      → EndsUpTo last c.period
  pub few_keys : length l.keys < 2 ^ 64
  pub few_cells : (cells : List Cell) → In cells l.cells → length cells < 2 ^ 64

-- the names and the constants in each version's operator and in its inverse are valid ones
abbrev pub VersionsNamed : List PlainVersion → Type 0
VersionsNamed [] = ⊤
VersionsNamed (v ∷ versions) = BodyNamed (evolving v.op v.inverse) × VersionsNamed versions

-- each version's operator, and each of its inverse, has one member: others are not written yet
abbrev pub VersionsOfOne : List PlainVersion → Type 0
VersionsOfOne [] = ⊤
VersionsOfOne (v ∷ versions) = HaveOneMember (evolving v.op v.inverse) × VersionsOfOne versions

-- the versions are valid, the lifelines are those that their operators give, and over each a table
-- is kept; the last stamp is that of a command, and no stamp is later
pub record IsImage (image : Image) : Type 0 where
  pub evolved : AreVersions None no_tables image.versions
  pub few : length image.versions ≤ max_versions
  pub named : VersionsNamed image.versions
  pub members : VersionsOfOne image.versions
  pub ends : last_or_nought image.last < forever
  pub begun : AllInForce (last_or_nought image.last) image.versions
  pub without : image.last ≡ None → image.versions ≡ []
  pub lines : lines_in image ≡ lifelines_of image.versions
  pub each : (l : StoredLine) → In l image.lines → IsStoredLine image.last l
