-- Filters: comparisons of single columns with constants, all of which a row passes that meets a
-- condition.
use Rattle.std.specs.Prelude.{◌≡◌, ℕ, Bool, true, List, All, Option, Some, None, slice_get}
use Rattle.std.specs.List.{list_all}
use Rattle.prima_base.specs.declared.value.Value.{Value}
use Rattle.prima_base.specs.Order.{value_cmp}
use Rattle.cond_expr.specs.declared.expr.Column.{Column}
use Rattle.cond_expr.specs.declared.expr.CmpOp.{CmpOp}
use Rattle.cond_expr.specs.PinnedParts.{pinned}
use Rattle.cond_expr.specs.Trees.{Test}
use Rattle.cond_expr.specs.Values.{agrees}
use Rattle.smo_ops_spec.specs.OneRow.{Row}

-- a comparison of the column at this place with a constant
pub record ColumnTest : Type 0 where
  pub column : ℕ
  pub op : CmpOp
  pub constant : Value

-- the value compares so with the constant; where there is none nothing is asked
abbrev pub is_passed_by : CmpOp → Value → Option Value → Bool
is_passed_by op constant None = true
is_passed_by op constant (Some v) = agrees op (value_cmp v constant)

-- what the row has in the column passes the test
abbrev pub lets : ColumnTest → Row → Bool
lets t row = is_passed_by t.op t.constant (slice_get row t.column)

-- the row passes all the tests
abbrev pub passes : List ColumnTest → Row → Bool
passes filter row = list_all (λ t. lets t row) filter

-- a top-level part of the condition compares the column so with the constant
pub record IsPart (columns : List Column) (condition : Test) (t : ColumnTest) : Type 0 where
  pub column : Column
  pub there : slice_get columns t.column ≡ Some column
  pub pins : pinned t.op column condition ≡ Some t.constant

-- of a condition over these columns: each of the tests is made by a part of it
abbrev pub IsFilter : List Column → Test → List ColumnTest → Type 0
IsFilter columns condition filter = All (IsPart columns condition) filter
