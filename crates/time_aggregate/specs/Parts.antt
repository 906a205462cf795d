-- Rows of one group, and rows whose groups come before others.
use Rattle.std.specs.Prelude.{◌≡◌, ℕ, List, take}
use Rattle.std.specs.declared.cmp.Ordering.TheVariants.{Less}
use Rattle.relations_spec.specs.Sets.{In}
use Rattle.prima_base.specs.declared.value.Value.{Value}
use Rattle.prima_base.specs.Order.{row_cmp}
use Rattle.time_aggregate.specs.Aggregates.{Row}

-- each of the rows begins with these values
abbrev pub AreOf : ℕ → List Value → List Row → Type 0
AreOf g key rows = (row : Row) → In row rows → take g row ≡ key

-- each of the first rows begins with lesser values than each of the others
abbrev pub AreBefore : ℕ → List Row → List Row → Type 0
AreBefore g rows others = (row other : Row) → In row rows → In other others
    → row_cmp (take g row) (take g other) ≡ Less
