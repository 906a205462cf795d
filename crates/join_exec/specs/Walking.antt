-- A walk along the entries of columns, by id and moment.
use Rattle.std.specs.Prelude.{◌≡◌, ◌⊎◌, ℕ, ◌<◌, ◌≤◌, ◌+◌, ◌++◌, ◌&&◌, ◌||◌, ◌==◌, Bool, true}
use Rattle.std.specs.Prelude.{nat_lt, nat_le, List, [], ◌∷◌, map, length, option_to_list}
use Rattle.std.specs.Prelude.{min, max, ⊤}
use Rattle.std.specs.List.{sum_by}
use Rattle.relations_spec.specs.Sets.{In}
use Rattle.relations_spec.specs.Spans.{Span, span, covers}
use Rattle.relations_spec.specs.Timed.{Entry}
use Rattle.prima_base.specs.declared.value.Value.{Value}
use Rattle.prima_base.specs.declared.value.Val.{Val}
use Rattle.prima_base.specs.Order.{shown, IsBorrowed}
use Rattle.prima_base.specs.Columns.{IsValid}
use Rattle.cond_expr.specs.Rows.{AreValid, AreBorrowed}
use Rattle.join_exec_spec.specs.Keeping.{IsValidRow}
use Rattle.history_store_spec.specs.Store.{Cell}
use Rattle.history_store_columns.specs.Scans.{seen_cell}
use Rattle.join_exec.specs.declared.cursor.Cursor.{Cursor}
use Rattle.join_exec.specs.Entries.{Has, HasRow, InTurn}

-- the entries that are left of a column, and of each
abbrev pub left : Cursor → List Cell
left c = map seen_cell (option_to_list c.head) ++ c.unread

abbrev pub all_left : List Cursor → List (List Cell)
all_left cursors = map left cursors

-- how many entries are not read so far
abbrev pub unread : List Cursor → ℕ
unread cursors = sum_by (λ (c : Cursor). length c.unread) cursors

-- the entry has no moment of a row from this one on: it is of a lower id, or of the same and over
abbrev pub is_past : ℕ → ℕ → Cell → Bool
is_past id m c = nat_lt c.id id || (c.id == id && nat_le c.period.end m)

-- the moment of the one row comes at that of the other or after it
abbrev pub IsFrom : ℕ → ℕ → ℕ → ℕ → Type 0
IsFrom id m i n = (id < i) ⊎ ((id ≡ i) × (m ≤ n))

-- what is left of a column's entries has what they all have from the moment of the row on
pub record IsLeft (id m : ℕ) (cells left : List Cell) : Type 0 where
  pub turn : InTurn left
  pub has : (i n : ℕ) (v : Value) → IsFrom id m i n → Has cells i v n → Has left i v n
  pub only : (i n : ℕ) (v : Value) → Has left i v n → Has cells i v n

-- so it is of each column
abbrev pub AreLeft : ℕ → ℕ → List (List Cell) → List (List Cell) → Type 0
AreLeft id m [] [] = ⊤
AreLeft id m [] (l ∷ ls) = ⊥
AreLeft id m (c ∷ cs) [] = ⊥
AreLeft id m (c ∷ cs) (l ∷ ls) = IsLeft id m c l × AreLeft id m cs ls

-- the first of the entries is not past
abbrev pub BeginsOn : ℕ → ℕ → List Cell → Type 0
BeginsOn id m [] = ⊤
BeginsOn id m (c ∷ cells) = IsFrom id (m + 1) c.id c.period.end

-- the row has this value from the moment up to the end; it is borrowed from the table
pub record IsHeldUntil (cells : List Cell) (id m end : ℕ) (v : Val) : Type 0 where
  pub later : m < end
  pub valid : IsValid (shown v)
  pub borrowed : IsBorrowed v
  pub held : (n : ℕ) → m ≤ n → n < end → Has cells id (shown v) n

-- the row has these values from the moment up to the end; they are borrowed from the table
pub record AreHeldUntil (columns : List (List Cell)) (id m end : ℕ) (values : List Val)
    : Type 0 where
  pub later : m < end
  pub valid : AreValid values
  pub borrowed : AreBorrowed values
  pub held : (n : ℕ) → m ≤ n → n < end → HasRow columns id (map shown values) n

-- the moments of both periods
abbrev pub both : Span → Span → Span
both p q = span (max p.start q.start) (min p.end q.end)

-- the entry is what the row with the id has in some of the period
pub record IsRowOf (period : Span) (columns : List (List Cell)) (id : ℕ)
    (e : Entry (List Value)) : Type 0 where
  pub wide : length e.item ≡ length columns
  pub valid : IsValidRow e.item
  pub within : (m : ℕ) → covers e.period m ≡ true → (covers period m ≡ true)
      × HasRow columns id e.item m

-- what the row with the id has in the period was put to the entries, and nothing else
pub record AreAdded (period : Span) (columns : List (List Cell)) (id : ℕ)
    (before after : List (Entry (List Value))) : Type 0 where
  pub kept : (e : Entry (List Value)) → In e before → In e after
  pub new : (e : Entry (List Value)) → In e after → In e before ⊎ IsRowOf period columns id e
  pub each : (m : ℕ) → covers period m ≡ true → (e : Entry (List Value)) × In e after
      × IsRowOf period columns id e × (covers e.period m ≡ true)
