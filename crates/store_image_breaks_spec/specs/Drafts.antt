-- What has all that an image has, but that two ids may show one row, and that a column may have
-- more entries than a count can say.
use Rattle.std.specs.Prelude.{◌≡◌, ◌<◌, ◌≤◌, ◌^◌, ℕ, List, length, None, [], Option}
use Rattle.relations_spec.specs.Sets.{In}
use Rattle.relations_spec.specs.Spans.{Span, forever}
use Rattle.prima_base.specs.Columns.{AreColumns, IsRow, IsValid}
use Rattle.prima_base.specs.Limits.{max_versions}
use Rattle.history_store_spec.specs.Store.{Cell, IsPeriod, IsFilled, Holds, row_at}
use Rattle.smo_ops_spec.specs.ValidPast.{last_or_nought, AllInForce, AreVersions}
use Rattle.smo_ops_spec.specs.Past.{no_tables}
use Rattle.smo_ops_versions_spec.specs.Lifelines.{lifelines_of}
use Rattle.store_image_spec.specs.Images.{StoredLine, Image, EndsUpTo, VersionsNamed, VersionsOfOne, lines_in}

-- over a lifeline
pub record IsDraftLine (last : Option ℕ) (l : StoredLine) : Type 0 where
  pub columns : AreColumns l.line.columns
  pub width : length l.cells ≡ length l.line.columns
  pub lasting : (p : Span) → In p l.keys → IsPeriod p
  pub filled : (cells : List Cell) → In cells l.cells → IsFilled l.keys cells
  pub fitting : (m id : ℕ) → Holds l.keys id m → IsRow l.line.columns (row_at id m l.cells)
  pub values : (cells : List Cell) → In cells l.cells → (c : Cell) → In c cells → IsValid c.value
  pub keys : (p : Span) → In p l.keys → EndsUpTo last p
  pub entries : (cells : List Cell) → In cells l.cells → (c : Cell) → In c cells
      → EndsUpTo last c.period
  pub few_keys : length l.keys < 2 ^ 64

-- at no moment two ids show one row
abbrev pub ShowsApart : StoredLine → Type 0
ShowsApart l = (m i j : ℕ) → Holds l.keys i m → Holds l.keys j m
    → row_at i m l.cells ≡ row_at j m l.cells → i ≡ j

pub record IsDraft (image : Image) : Type 0 where
  pub evolved : AreVersions None no_tables image.versions
  pub few : length image.versions ≤ max_versions
  pub named : VersionsNamed image.versions
  pub members : VersionsOfOne image.versions
  pub ends : last_or_nought image.last < forever
  pub begun : AllInForce (last_or_nought image.last) image.versions
  pub without : image.last ≡ None → image.versions ≡ []
  pub lines : lines_in image ≡ lifelines_of image.versions
  pub each : (l : StoredLine) → In l image.lines → IsDraftLine image.last l
