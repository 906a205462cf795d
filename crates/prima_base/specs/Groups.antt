-- Groups of rows, what aggregates have of them, and the periods in which that stays the same.
use Rattle.std.specs.Prelude.{ℕ, ℤ, List, map}
use Rattle.relations_spec.specs.Timed.{Entry}
use Rattle.prima_base.specs.declared.value.Value.{Value}
use Rattle.prima_base.specs.Order.{shown}
use Rattle.prima_base.specs.declared.agg_row.AggValue.{AggValue}
use Rattle.prima_base.specs.declared.agg_row.AggValue.TheVariants.{Count, Of, Sum}
use Rattle.prima_base.specs.declared.agg_row.AggRow.{AggRow}

-- what an aggregate has of a group: a number of rows, a value, or a sum
pub data Amount : Type 0 where
  count : ℕ → Amount
  one : Value → Amount
  sum : ℤ → Amount

-- a group: what its rows begin with, and what the aggregates have of them
pub record Group : Type 0 where
  pub key : List Value
  pub amounts : List Amount

abbrev pub amount : AggValue → Amount
amount (Count n) = count n
amount (Of v) = one (shown v)
amount (Sum n) = sum n

-- the group that is shown, with its period
abbrev pub group_shown : AggRow → Entry Group
group_shown row = record {
  item = record { key = map shown row.group.items; amounts = map amount row.values.items };
  period = row.period;
}

abbrev pub groups_shown : List AggRow → List (Entry Group)
groups_shown rows = map group_shown rows
