-- Stretches in which ids show one row: those of keys without a value, and what they have with the
-- entries of one column more.
use Rattle.std.specs.Prelude.{ℕ, ◌+◌, ◌==◌, List, [], ◌∷◌, ◌++◌, map, nat_lt, if◌then◌else◌}
use Rattle.relations_spec.specs.Spans.{Span, span}
use Rattle.prima_base.specs.Order.{shown}
use Rattle.prima_base.specs.declared.value.Value.{Value}
use Rattle.history_store_spec.specs.Store.{Cell}
use Rattle.store_image_rows.specs.declared.stretch.Stretch.{Stretch}

-- the id shows the row in the period
pub record RowStretch : Type 0 where
  pub id : ℕ
  pub row : List Value
  pub period : Span

abbrev pub stretch_of : Stretch → RowStretch
stretch_of s = record { id = s.id; row = map shown s.values.items; period = s.period }

abbrev pub row_stretches : List Stretch → List RowStretch
row_stretches stretches = map stretch_of stretches

-- one for each key, without a value
abbrev pub bare_from : ℕ → List Span → List RowStretch
bare_from id [] = []
bare_from id (k ∷ keys) = record { id = id; row = []; period = k } ∷ bare_from (id + 1) keys

-- ---- one column more

-- with a value more, in a period
abbrev pub longer : RowStretch → Value → Span → RowStretch
longer p v period = record { id = p.id; row = p.row ++ v ∷ []; period = period }

-- up to the entry's end, and from there on
abbrev pub begun : RowStretch → Cell → List RowStretch
begun p c = if nat_lt p.period.start c.period.end
    then longer p c.value (span p.period.start c.period.end) ∷ [] else []

abbrev pub ended_by : RowStretch → Cell → RowStretch
ended_by p c = record { id = p.id; row = p.row; period = span c.period.end p.period.end }

-- what they have with an entry, and what is left after it
abbrev pub given : List RowStretch → Cell → List RowStretch
given [] c = []
given (p ∷ stretches) c =
    if nat_lt c.period.end p.period.end then begun p c
    else longer p c.value p.period ∷ (if p.period.end == c.period.end then []
    else given stretches c)

abbrev pub left_by : List RowStretch → Cell → List RowStretch
left_by [] c = []
left_by (p ∷ stretches) c = if nat_lt c.period.end p.period.end then ended_by p c ∷ stretches
    else (if p.period.end == c.period.end then stretches else left_by stretches c)

abbrev pub merged : List RowStretch → List Cell → List RowStretch
merged stretches [] = []
merged stretches (c ∷ cells) = given stretches c ++ merged (left_by stretches c) cells

-- column by column
abbrev pub all_merged : List RowStretch → List (List Cell) → List RowStretch
all_merged stretches [] = stretches
all_merged stretches (cells ∷ columns) = all_merged (merged stretches cells) columns
