-- How one goes back over an operator for which no inverse is named: of seven kinds by a derived
-- inverse, over a dropped column by a filling, and over four kinds not at all.
use Rattle.std.specs.Prelude.{◌≡◌, ℕ, List, [], pos, Option, Some, None, ⊤}
use Rattle.std.specs.Option.{unwrap_or}
use Rattle.prima_base.specs.declared.value.Value.{Value}
use Rattle.prima_base.specs.declared.value.Value.TheVariants.{Int, Text}
use Rattle.prima_base.specs.declared.value.ColType.{ColType}
use Rattle.prima_base.specs.declared.value.ColType.TheVariants.{Int as INT, Text as TEXT}
use Rattle.schema_catalog.specs.Tables.{Tables, columns_of}
use Rattle.cond_expr.specs.Trees.{constant}
use Rattle.cond_expr.specs.Kinds.{value_kind}
use Rattle.smo_ops_types.specs.Operators.{Operator, nop, create_table, drop_table, rename_table}
use Rattle.smo_ops_types.specs.Operators.{copy_table, merge_table, partition_table, decompose_table}
use Rattle.smo_ops_types.specs.Operators.{join_table, add_column, drop_column, rename_column}
use Rattle.smo_ops_spec.specs.Preconditions.{type_in}
use Rattle.smo_ops_spec.specs.After.{op_fault, schema_after}

-- a column that a table gets back: its table, its name, its type
pub record FilledColumn : Type 0 where
  pub table : List ℕ
  pub name : List ℕ
  pub kind : ColType

pub data WayBack : Type 0 where
  by_inverse : Operator → WayBack
  by_filling : FilledColumn → WayBack
  no_way : WayBack

abbrev pub way_back_over : Tables → Operator → WayBack
way_back_over before nop = by_inverse nop
way_back_over before (create_table r cs) = by_inverse (drop_table r)
way_back_over before (drop_table r) = no_way
way_back_over before (rename_table r t) = by_inverse (rename_table t r)
way_back_over before (copy_table r t) = by_inverse (drop_table t)
way_back_over before (merge_table r s t) = no_way
way_back_over before (partition_table r s c t) = by_inverse (merge_table s t r)
way_back_over before (decompose_table r s xs t ys) = no_way
way_back_over before (join_table r s t c) = no_way
way_back_over before (add_column c e r) = by_inverse (drop_column c r)
way_back_over before (drop_column c r) = by_filling (record {
  table = r;
  name = c;
  kind = unwrap_or (type_in (columns_of before r) c) INT;
})
way_back_over before (rename_column b r c) = by_inverse (rename_column c r b)

-- the constant that a filled column has in each row: 0, or the empty text
abbrev pub blank : ColType → Value
blank INT = Int (pos 0)
blank TEXT = Text []

-- the operator that fills the column, by the constant of each type
abbrev pub filled_with : (ColType → Value) → FilledColumn → Operator
filled_with constants f = add_column f.name (constant (constants f.kind)) f.table

-- the derived operator; none where there is no way back
abbrev pub operator_of_way : WayBack → Option Operator
operator_of_way (by_inverse op) = Some op
operator_of_way (by_filling f) = Some (filled_with blank f)
operator_of_way no_way = None

abbrev pub derived : Tables → Operator → Option Operator
derived before op = operator_of_way (way_back_over before op)

-- the operator is accepted behind another one, and the tables behind it are those before the other
pub record LeadsBack (before : Tables) (op back : Operator) : Type 0 where
  pub accepted : op_fault (schema_after before op) back ≡ None
  pub leads : schema_after (schema_after before op) back ≡ before

-- a derived inverse leads back, and so does a filling by any constant of the column's type
abbrev pub WayLeadsBack : Tables → Operator → WayBack → Type 0
WayLeadsBack before op (by_inverse inverse) = LeadsBack before op inverse
WayLeadsBack before op (by_filling f) = (v : Value) → value_kind v ≡ f.kind
    → LeadsBack before op (add_column f.name (constant v) f.table)
WayLeadsBack before op no_way = ⊤
