-- The tables and the columns that are lost on the way from one version to another, by names alone.
use Rattle.std.specs.Prelude.{◌≡◌, ℕ, ◌+◌, ◌<◌, ◌≤◌, List, [], ◌∷◌, ◌++◌, length, Option, Some}
use Rattle.std.specs.Prelude.{None, ⊤, slice_get, if◌then◌else◌, Bool, false}
use Rattle.std.specs.Option.{option_or}
use Rattle.std.specs.FinMap.{get, insert, remove, empty}
use Rattle.prima_base.specs.Columns.{Column}
use Rattle.schema_catalog.specs.Tables.{Tables, columns_of}
use Rattle.cond_expr.specs.declared.expr.ColRef.{ColRef}
use Rattle.cond_expr.specs.References.{written_names}
use Rattle.cond_expr.specs.Faults.{references, test_references}
use Rattle.smo_ops_types.specs.Operators.{Operator, partition_table, join_table, add_column}
use Rattle.smo_ops_types.specs.Operators.{rename_column}
use Rattle.smo_ops_types.specs.Commands.{PlainVersion}
use Rattle.smo_ops_spec.specs.OneRow.{same}
use Rattle.smo_ops_spec.specs.Making.{common_names}
use Rattle.smo_ops_spec.specs.OperatorTable.{Made, line, made_names}
use Rattle.smo_ops_spec.specs.Touching.{made_of}
use Rattle.smo_ops_spec.specs.Losses.{Loss, first_loss}
use Rattle.smo_ops_spec.specs.WaysBack.{FilledColumn, WayBack, by_inverse, by_filling, no_way}
use Rattle.smo_ops_spec.specs.WaysBack.{way_back_over}
use Rattle.smo_ops_spec.specs.Evolutions.{schema_after_each}
use Rattle.smo_ops_spec.specs.Past.{no_tables, tables_from}
use Rattle.smo_ops_versions_spec.specs.Steps.{Step, carrying, filling, undoing, taken}
use Rattle.smo_ops_versions_spec.specs.Ways.{way}
use Rattle.smo_ops_versions_spec.specs.ColumnLosses.{TableLoss, WholeTable, OfColumns, Losses}
use Rattle.smo_ops_versions_spec.specs.ColumnLosses.{lost_columns, table_loss, column_loss}
use Rattle.smo_ops_versions_spec.specs.ColumnLosses.{gathered}

-- the loss of the first of the named columns that is lost, in written order
abbrev pub first_named : (List ℕ → Option Loss) → List ColRef → Option Loss
first_named loss references = first_loss loss (written_names references)

-- the loss of a column in the first of the inputs in which it is lost
abbrev pub in_inputs : Losses → Operator → List ℕ → Option Loss
in_inputs losses op n = first_loss (λ r. column_loss losses r n) (made_of op)

-- which rows are made is not told where a PARTITION or a JOIN asks for a lost column
abbrev pub rows_lost : Tables → Operator → Losses → Option Loss
rows_lost tables (partition_table r s c t) losses =
    first_named (column_loss losses r) (test_references c)
rows_lost tables (join_table r s t c) losses = option_or
    (first_loss (in_inputs losses (join_table r s t c))
    (common_names (columns_of tables r) (columns_of tables s)))
    (first_named (in_inputs losses (join_table r s t c)) (test_references c))
rows_lost tables op losses = None

-- a made table is lost where an input is, the first named one, or where its rows are not told
abbrev pub made_loss : Tables → Operator → Losses → Option Loss
made_loss tables op losses =
    option_or (first_loss (table_loss losses) (made_of op)) (rows_lost tables op losses)

-- else a column of it is lost where it is lost in an input; a computed one where what it is
-- computed of is, and a renamed one as the old one was
abbrev pub made_column_loss : Operator → Losses → List ℕ → Option Loss
made_column_loss (add_column c e r) losses n = if same c n
    then first_named (column_loss losses r) (references e) else column_loss losses r n
made_column_loss (rename_column b r c) losses n = if same c n then column_loss losses r b
    else column_loss losses r n
made_column_loss op losses n = in_inputs losses op n

-- the operator gives the column with this name another value than an input has under it
abbrev pub gives_column : Operator → List ℕ → Bool
gives_column (add_column c e r) n = same c n
gives_column (rename_column b r c) n = same c n
gives_column op n = false

abbrev pub made_as : Option Loss → (List ℕ → Option Loss) → List Column → TableLoss
made_as None columns_lost columns = OfColumns (gathered columns columns_lost)
made_as (Some loss) columns_lost columns = WholeTable loss

abbrev pub none_lost : List (List ℕ) → Losses → Losses
none_lost [] losses = losses
none_lost (n ∷ names) losses = none_lost names (remove losses n)

abbrev pub all_lost : Loss → List (List ℕ) → Losses → Losses
all_lost loss [] losses = losses
all_lost loss (n ∷ names) losses = all_lost loss names (insert losses n (WholeTable loss))

abbrev pub with_made : (List Column → TableLoss) → List Made → Losses → Losses
with_made of [] losses = losses
with_made of (m ∷ made) losses = with_made of made (insert losses m.name (of m.columns))

-- over an operator the consumed names go, and each made table is checked by what it is made of
abbrev pub losses_over : Tables → Operator → Losses → Losses
losses_over tables op losses =
    with_made (made_as (made_loss tables op losses) (made_column_loss op losses))
    (line tables op).made (none_lost (line tables op).consumed losses)

-- over a filling the column is lost, where its table is not lost itself
abbrev pub filled_at : Loss → FilledColumn → Option Loss → Losses → Losses
filled_at loss f None losses = insert losses f.table
    (OfColumns (insert (lost_columns (get losses f.table)) f.name loss))
filled_at loss f (Some whole) losses = losses

abbrev pub losses_filled : Loss → FilledColumn → Losses → Losses
losses_filled loss f losses = filled_at loss f (table_loss losses f.table) losses

-- back over an operator that has no way back the made names go, and the consumed ones are lost
abbrev pub losses_undone : Loss → Tables → Operator → Losses → Losses
losses_undone loss before op losses =
    all_lost loss (line before op).consumed (none_lost (made_names (line before op).made) losses)

-- over one step
abbrev pub losses_stepped : Step → Losses → Losses
losses_stepped (carrying tables op) losses = losses_over tables op losses
losses_stepped (filling loss tables f) losses = losses_filled loss f losses
losses_stepped (undoing loss before op) losses = losses_undone loss before op losses

-- what is lost on the way from version v to version q
abbrev pub lost_names : List PlainVersion → ℕ → ℕ → Losses
lost_names versions v q = taken losses_stepped (way versions v q) empty

-- over these one does not go back without a loss
abbrev pub Loses : WayBack → Type 0
Loses (by_inverse inverse) = ⊥
Loses (by_filling f) = ⊤
Loses no_way = ⊤

-- the loss is by a version that is gone back over on the way from version v to version q, that
-- names no inverse, and by a member of its operator over which one does not go back without a loss:
-- the version after version `before`, and the member after the `earlier` ones
pub record IsUnnamed (versions : List PlainVersion) (v q : ℕ) (loss : Loss) : Type 0 where
  pub before : ℕ
  pub by : PlainVersion
  pub is : slice_get versions before ≡ Some by
  pub unnamed : by.inverse ≡ []
  pub earlier : List Operator
  pub member : Operator
  pub later : List Operator
  pub members : by.op ≡ earlier ++ member ∷ later
  pub underived : Loses
      (way_back_over (schema_after_each (tables_from no_tables versions before) earlier) member)
  pub from : q ≤ before
  pub to : before < v
  pub lost : loss ≡ (before + 1, length earlier + 1)
