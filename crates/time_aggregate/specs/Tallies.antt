-- What is kept of the rows of a group that hold.
use Rattle.std.specs.Prelude.{◌≡◌, ℕ, ◌*◌, ◌^◌, ℤ, pos, neg_ℤ, ◌≤ℤ◌, ◌+◌, ◌+ℤ◌, Bool, List}
use Rattle.std.specs.Prelude.{map, length, Some, if◌then◌else◌, All, ◌<◌, slice_index_or}
use Rattle.std.specs.Option.{unwrap_or}
use Rattle.std.specs.Ordering.{is_eq}
use Rattle.std.specs.BTreeMap as tree
use Rattle.prima_base.specs.declared.value.Value.{Value}
use Rattle.prima_base.specs.Order.{value_cmp}
use Rattle.temporal_lang_types.specs.declared.agg_item.AggItem.{AggItem}
use Rattle.temporal_lang_types.specs.declared.agg_item.AggItem.TheVariants.{Count, Min, Max, Sum}
use Rattle.time_aggregate.specs.declared.tally.Tally.{Tally}
use Rattle.time_aggregate.specs.declared.turn.Turn.{Turn}
use Rattle.time_aggregate.specs.declared.sweep.Held.{Held}
use Rattle.time_aggregate.specs.Aggregates.{Row, cell, number, total_by}
use Rattle.time_aggregate.specs.Turns.{weigh, row_at, signed}

-- what a row adds to the sum
abbrev pub weight : AggItem → Row → ℤ
weight Count row = pos 1
weight (Sum place) row = number (cell place row)
weight (Min place) row = pos 0
weight (Max place) row = pos 0

-- how often a row has the value where the least or the greatest is told
abbrev pub is_value : Value → Value → ℤ
is_value v w = if is_eq (value_cmp v w) then pos 1 else pos 0

abbrev pub has_value : AggItem → Value → Row → ℤ
has_value Count v row = pos 0
has_value (Sum place) v row = pos 0
has_value (Min place) v row = is_value v (cell place row)
has_value (Max place) v row = is_value v (cell place row)

-- how often the value is counted
abbrev pub counted : tree.BTreeMap Value ℤ → Value → ℤ
counted counts v = unwrap_or (tree.get value_cmp counts v) (pos 0)

-- a value that is not there is not counted at all
abbrev pub NoneIsZero : tree.BTreeMap Value ℤ → Type 0
NoneIsZero counts = (v : Value) → tree.get value_cmp counts v ≡ Some (pos 0) → ⊥

-- so many times 2^63 at most
abbrev pub IsWithin : ℕ → ℤ → Type 0
IsWithin k n = (neg_ℤ (pos (k * 2 ^ 63)) ≤ℤ n) × (n ≤ℤ pos (k * 2 ^ 63))

-- the tally after a row began to hold, or ended
pub record Turned (row : Row) (opens : Bool) (before after : Tally) : Type 0 where
  pub item : after.item ≡ before.item
  pub sum : after.sum ≡ before.sum +ℤ signed opens (weight before.item row)
  pub within : (k : ℕ) → IsWithin k before.sum → IsWithin (k + 1) after.sum
  pub counts : (v : Value) → counted after.counts v
      ≡ counted before.counts v +ℤ signed opens (has_value before.item v row)
  pub zero : NoneIsZero before.counts → NoneIsZero after.counts

-- each of the tallies after it
abbrev pub AreTurned : Row → Bool → List Tally → List Tally → Type 0
AreTurned row opens before after = (length after ≡ length before) × ((k : ℕ) (d : Tally)
    → k < length before → Turned row opens (slice_index_or before k d) (slice_index_or after k d))

-- one more turn fits
abbrev pub HasRoom : Tally → Type 0
HasRoom t = IsWithin (2 ^ 63) t.sum × ((v : Value) → IsWithin (2 ^ 63) (counted t.counts v))

-- a tally after turns of rows
pub record IsTally (rows : List Row) (done : List Turn) (t : Tally) : Type 0 where
  pub sum : t.sum ≡ weigh (λ place. weight t.item (row_at rows place)) done
  pub within : IsWithin (length done) t.sum
  pub counts : (v : Value) → counted t.counts v
      ≡ weigh (λ place. has_value t.item v (row_at rows place)) done
  pub zero : NoneIsZero t.counts

pub record IsHeld (wanted : List AggItem) (rows : List Row) (done : List Turn) (held : Held)
    : Type 0 where
  pub count : held.count ≡ weigh (λ place. pos 1) done
  pub wanted_is : map (λ (t : Tally). t.item) held.tallies.items ≡ wanted
  pub each : All (IsTally rows done) held.tallies.items

-- a tally of the rows that hold
pub record TellsOf (held : List Row) (t : Tally) : Type 0 where
  pub sum : t.sum ≡ total_by (weight t.item) held
  pub counts : (v : Value) → counted t.counts v ≡ total_by (has_value t.item v) held
  pub zero : NoneIsZero t.counts

pub record AllTellOf (wanted : List AggItem) (rows : List Row) (held : Held) : Type 0 where
  pub count : held.count ≡ pos (length rows)
  pub wanted_is : map (λ (t : Tally). t.item) held.tallies.items ≡ wanted
  pub each : All (TellsOf rows) held.tallies.items
