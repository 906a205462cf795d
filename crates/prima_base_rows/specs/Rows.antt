-- Rows with periods, as a list.
use Rattle.std.specs.Prelude.{ℕ, ◌<◌, ◌^◌, Bool, List, take, drop, length, map, refl}
use Rattle.std.specs.declared.vec.Vec.{Vec}
use Rattle.std.specs.declared.alloc.Global.{Global}
use Rattle.relations_spec.specs.Spans.{Span}
use Rattle.prima_base.specs.declared.value.Val.{Val}
use Rattle.prima_base.specs.declared.timed_row.TimedRow.{TimedRow}
use Rattle.prima_base.specs.Order.{is_borrowed}
use Rattle.prima_base_rows.specs.RoomLaws.{no_more, short, short_part}
use denote.RawPtr.{null_ptr}

-- what a list of rows shows
pub record Rows : Type 0 where
  pub items : List TimedRow

-- a list of these values that has room for no more
abbrev pub vec_of : (values : List Val) → length values < 2 ^ 63 → Vec Val Global
vec_of values few = record {
  ptr = null_ptr;
  len = length values;
  cap = length values;
  alloc = record { memory = record { seal = tt } };
  items = values;
  ok = (refl, no_more (length values));
  small = few;
}

-- the row of these values
abbrev pub row_of : Vec Val Global → Span → TimedRow
row_of values period = record { values = vec_of values.items (short values); period = period }

-- the row of the part of the values that begins there and is so long
abbrev pub part_of : Vec Val Global → ℕ → ℕ → Span → TimedRow
part_of values start len period = record {
  values = vec_of (take len (drop start values.items)) (short_part values start len);
  period = period;
}

-- the row in another period
abbrev pub in_period : TimedRow → Span → TimedRow
in_period row period = record row { period = period }

-- which of the row's values are borrowed
abbrev pub borrowed_of : TimedRow → List Bool
borrowed_of row = map is_borrowed row.values.items
