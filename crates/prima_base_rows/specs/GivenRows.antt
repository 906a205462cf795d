-- Rows that are given to a table.
use Rattle.std.specs.Prelude.{⊤, All, List, map}
use Rattle.prima_base.specs.Order.{shown, IsBorrowed}
use Rattle.prima_base.specs.Columns.{IsValid}
use Rattle.prima_base.specs.declared.value.Value.{Value}
use Rattle.prima_base_rows.specs.declared.row.RowValues.{RowValues}
use Rattle.prima_base_rows.specs.declared.row.RowValues.TheVariants.{Borrowed, Owned, Each}
use Rattle.prima_base_rows.specs.declared.row.GivenRow.TheInside.{Inside}

abbrev pub values_of : RowValues → List Value
values_of (Borrowed values) = values.now
values_of (Owned values) = values.items
values_of (Each values) = map shown values.items

-- a `Value` is valid by its type
abbrev pub AreValid : RowValues → Type 0
AreValid (Borrowed values) = ⊤
AreValid (Owned values) = ⊤
AreValid (Each values) = All (λ v. IsValid (shown v)) values.items

-- no text is the row's own
abbrev pub LieElsewhere : RowValues → Type 0
LieElsewhere (Borrowed values) = ⊤
LieElsewhere (Owned values) = ⊥
LieElsewhere (Each values) = All IsBorrowed values.items

abbrev pub row_values : Inside → List Value
row_values row = values_of row.values

abbrev pub IsValidRow : Inside → Type 0
IsValidRow row = AreValid row.values
