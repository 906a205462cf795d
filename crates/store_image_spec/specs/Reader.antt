-- Reading a store image, from left to right. The first part, version, lifeline, key or entry that
-- is not as it must be is named by its first byte; where bytes run out, the one in which they end;
-- a missing entry or lifeline by what stands in its place; and what stands after the image by its
-- first byte.
use Rattle.std.specs.Prelude.{ℕ, zero, suc, ◌+◌, ◌==◌, Bool, List, [], ◌∷◌, Option, Some, None}
use Rattle.std.specs.Prelude.{map, if◌then◌else◌}
use Rattle.relations_spec.specs.Spans.{Span, span}
use Rattle.prima_base.specs.Columns.{Column}
use Rattle.prima_base.specs.declared.value.ColType.{ColType}
use Rattle.prima_base.specs.declared.value.Value.{Value}
use Rattle.schema_catalog.specs.Tables.{Tables}
use Rattle.history_store_spec.specs.Store.{Cell}
use Rattle.smo_ops_types.specs.Commands.{PlainVersion}
use Rattle.smo_ops_types.specs.Operators.{Operator}
use Rattle.smo_ops_spec.specs.Evolutions.{schema_after_each}
use Rattle.smo_ops_spec.specs.Past.{no_tables}
use Rattle.command_codec_spec.specs.Reading.{Parsed, Unexpected, Parser, bind, pure, map_to, pair}
use Rattle.command_codec_spec.specs.Reading.{by_tag, digits, items}
use Rattle.command_codec_spec.specs.Reader.{up_to, number_64, name, value, operator, operators}
use Rattle.smo_ops_versions_spec.specs.Lifelines.{Lifeline, lifelines_of}
use Rattle.store_image_spec.specs.Images.{StoredLine, Image}
use Rattle.store_image_spec.specs.Items.{item, checked, missing}
use Rattle.store_image_spec.specs.ItemChecks.{is_version, is_line, is_period, is_due, are_apart}

-- a number of 4 bytes
unfoldable pub number_32 : Parser ℕ
number_32 = digits 4294967295 4 0

-- ---- the last stamp

-- none, and eight zero bytes; or the stamp of a command
abbrev pub last_arm : ℕ → Parser (Option ℕ)
last_arm tag = if tag == 0 then map_to (λ n. None) (digits 0 8 0)
    else map_to Some (digits 18446744073709551614 8 0)

unfoldable pub last_stamp : Parser (Option ℕ)
last_stamp = item (by_tag (up_to 1) last_arm)

-- ---- versions

-- each operator that is read has one member
abbrev pub version_after : Tables → ℕ × (Operator × List Operator) → PlainVersion
version_after before (stamp, (op, inverse)) = record {
  stamp = stamp;
  op = op ∷ [];
  inverse = map (λ o. o ∷ []) inverse;
  tables =
      schema_after_each before (op ∷ []);
}

abbrev pub evolution : Tables → Parser PlainVersion
evolution before = map_to (version_after before) (pair number_64 (pair operator operators))

-- the next version, after so many, the last of which has this stamp and these tables
unfoldable pub version : Option ℕ → ℕ → Option ℕ → Tables → Parser PlainVersion
version last number before tables = item (checked (is_version last number before tables)
    (evolution tables))

-- so many
unfoldable pub versions : Option ℕ → ℕ → ℕ → Option ℕ → Tables → Parser (List PlainVersion)
versions last zero number before tables = pure []
versions last (suc n) number before tables =
    bind (version last number before tables) (λ v.
    map_to (λ vs. v ∷ vs) (versions last n (number + 1) (Some v.stamp) v.tables))

unfoldable pub all_versions : Option ℕ → Parser (List PlainVersion)
all_versions last = bind (item number_32) (λ n. versions last n 0 None no_tables)

-- ---- keys and entries

abbrev pub a_span : ℕ × ℕ → Span
a_span (start, end) = span start end

unfoldable pub period : Parser Span
period = map_to a_span (pair number_64 number_64)

unfoldable pub key : Option ℕ → Parser Span
key last = item (checked (is_period last) period)

unfoldable pub keys : Option ℕ → Parser (List Span)
keys last = bind (item number_64) (λ n. items (key last) n)

abbrev pub cell_of : (ℕ × Value) × Span → Cell
cell_of ((id, content), lasts) = record { id = id; value = content; period = lasts }

-- the next entry: of the key with this id, of whose period this part is not yet filled
unfoldable pub entry : Option ℕ → ColType → ℕ → Span → Parser Cell
entry last type id left = item (checked (is_due last type id left)
    (map_to cell_of (pair (pair number_64 value) period)))

-- so many entries fill the periods of these keys, the first of which has this id; of the first a
-- part may be filled already
unfoldable pub entries : Option ℕ → ColType → ℕ → ℕ → List Span → Parser (List Cell)
entries last type zero id [] = pure []
entries last type zero id (left ∷ keys) = missing
entries last type (suc n) id [] = missing
entries last type (suc n) id (left ∷ keys) =
    bind (entry last type id left) (λ c. map_to (λ cs. c ∷ cs)
    (if c.period.end == left.end then entries last type n (id + 1) keys
    else entries last type n id (span c.period.end left.end ∷ keys)))

unfoldable pub column_entries : Option ℕ → List Span → ColType → Parser (List Cell)
column_entries last keys type = bind (item number_64) (λ n. entries last type n 0 keys)

-- column by column
unfoldable pub columns : Option ℕ → List Span → List Column → Parser (List (List Cell))
columns last keys [] = pure []
columns last keys (c ∷ rest) = bind (column_entries last keys c.1)
    (λ cells. map_to (λ l. cells ∷ l) (columns last keys rest))

-- ---- lifelines

unfoldable pub line_head : Parser ((ℕ × ℕ) × List ℕ)
line_head = pair (pair number_32 number_32) name

abbrev pub a_line : Lifeline → List Span → List (List Cell) → StoredLine
a_line line keys cells = record { line = line; keys = keys; cells = cells }

abbrev pub has_apart : StoredLine → Bool
has_apart l = are_apart l.keys l.cells

-- what is kept over the lifeline that is due; where two ids show one row, the lifeline is named,
-- which breaks nothing else
unfoldable pub stored_line : Option ℕ → Lifeline → Parser StoredLine
stored_line last due =
    checked has_apart (bind (item (checked (is_line due) line_head))
    (λ head. bind (keys last) (λ ks. map_to (a_line due ks) (columns last ks due.columns))))

-- so many, of the lifelines that are due
unfoldable pub lines : Option ℕ → ℕ → List Lifeline → Parser (List StoredLine)
lines last zero [] = pure []
lines last zero (due ∷ rest) = missing
lines last (suc n) [] = missing
lines last (suc n) (due ∷ rest) = bind (stored_line last due)
    (λ l. map_to (λ ls. l ∷ ls) (lines last n rest))

unfoldable pub all_lines : Option ℕ → List Lifeline → Parser (List StoredLine)
all_lines last due = bind (item number_32) (λ n. lines last n due)

-- ---- images

-- nothing stands after it
abbrev pub nothing_after : {A : Type 0} → A → Parser A
nothing_after a [] = Parsed a []
nothing_after a (b ∷ rest) = Unexpected (b ∷ rest)

abbrev pub an_image : Option ℕ → List PlainVersion → List StoredLine → Image
an_image last versions lines = record { last = last; versions = versions; lines = lines }

unfoldable pub image : Parser Image
image =
    bind last_stamp (λ last. bind (all_versions last)
    (λ versions. bind (all_lines last (lifelines_of versions)) (λ lines.
    nothing_after (an_image last versions lines))))
