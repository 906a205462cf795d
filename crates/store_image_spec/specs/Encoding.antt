-- The bytes of a store image. Numbers are unsigned, their highest byte first; names, values and
-- operators are spelled as in a command.
use Rattle.std.specs.Prelude.{ℕ, List, ◌∷◌, ◌++◌, Option, Some, None}
use Rattle.std.specs.List.{flat_map}
use Rattle.relations_spec.specs.Spans.{Span}
use Rattle.history_store_spec.specs.Store.{Cell}
use Rattle.smo_ops_types.specs.Commands.{PlainVersion}
use Rattle.command_codec_spec.specs.Encoding.{number, name_bytes, value_bytes, evolution_bytes}
use Rattle.command_codec_spec.specs.Encoding.{list_bytes}
use Rattle.smo_ops_versions_spec.specs.Lifelines.{Lifeline}
use Rattle.store_image_spec.specs.Images.{StoredLine, Image}

-- of a lifeline that lives, in place of its last version
abbrev pub no_last : ℕ
no_last = 4294967295

abbrev pub last_number : Option ℕ → ℕ
last_number None = no_last
last_number (Some k) = k

abbrev pub last_bytes : Option ℕ → List ℕ
last_bytes None = 0 ∷ number 8 0
last_bytes (Some stamp) = 1 ∷ number 8 stamp

-- a version's stamp, its operator, and the operators of its inverse
abbrev pub version_bytes : PlainVersion → List ℕ
version_bytes v = number 8 v.stamp ++ evolution_bytes v.op
    ++ list_bytes 4 evolution_bytes v.inverse

abbrev pub span_bytes : Span → List ℕ
span_bytes p = number 8 p.start ++ number 8 p.end

abbrev pub cell_bytes : Cell → List ℕ
cell_bytes c = number 8 c.id ++ value_bytes c.value ++ span_bytes c.period

-- a lifeline's first version, its last, and its table
abbrev pub line_bytes : Lifeline → List ℕ
line_bytes l = number 4 l.first ++ number 4 (last_number l.last) ++ name_bytes l.table

-- and after them its keys, and the entries of each column, of which there are as many lists as the
-- table has columns
abbrev pub stored_bytes : StoredLine → List ℕ
stored_bytes l = line_bytes l.line ++ list_bytes 8 span_bytes l.keys
    ++ flat_map (list_bytes 8 cell_bytes) l.cells

abbrev pub image_bytes : Image → List ℕ
image_bytes image = last_bytes image.last ++ list_bytes 4 version_bytes image.versions
    ++ list_bytes 4 stored_bytes image.lines
