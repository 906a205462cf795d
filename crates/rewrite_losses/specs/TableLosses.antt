-- What is kept of a table's loss, and how a map of losses is stored.
use Rattle.std.specs.Prelude.{⊤, ◌≡◌, ℕ, List, [], ◌∷◌, Option, Some, None, refl}
use Rattle.std.specs.Coded.{Coded, code_by, coded×, coded_ℕ, coded_list, coded_option}
use Rattle.std.specs.FinMap.{FinMap, empty, insert, code}
use Rattle.prima_base.specs.declared.value.ColType.{ColType}
use Rattle.prima_base.specs.Order.{bytes_cmp}
use Rattle.smo_ops_spec.specs.Losses.{Loss, first_loss}
use Rattle.schema_catalog.specs.Tables.{Tables, columns_of}
use Rattle.smo_ops_types.specs.Operators.{Operator}
use Rattle.smo_ops_spec.specs.After.{schema_after}
use Rattle.smo_ops_spec.specs.WaysBack.{FilledColumn, WayBack, by_inverse, by_filling, no_way}
use Rattle.smo_ops_versions_spec.specs.LostNames.{made_loss, made_column_loss, made_as}
use Rattle.smo_ops_versions_spec.specs.ColumnLosses.{TableLoss, WholeTable, OfColumns, Losses}
use Rattle.smo_ops_versions_spec.specs.ColumnLosses.{column_loss}

-- the loss of the table itself or, where there is none, those of its columns
abbrev pub shown_loss : Option Loss → FinMap bytes_cmp Loss → TableLoss
shown_loss None lost = OfColumns lost
shown_loss (Some loss) lost = WholeTable loss

abbrev pub Parts : Type 0
Parts = Option Loss × FinMap bytes_cmp Loss

abbrev pub parts_of : TableLoss → Parts
parts_of (WholeTable loss) = (Some loss, empty)
parts_of (OfColumns lost) = (None, lost)

abbrev pub from_parts : Parts → TableLoss
from_parts p = shown_loss p.0 p.1

pub parts_again : (t : TableLoss) → from_parts (parts_of t) ≡ t
parts_again (WholeTable loss) = refl
parts_again (OfColumns lost) = refl

abbrev pub loss_code : Coded TableLoss
loss_code = code_by Parts (coded× (coded_option (coded× coded_ℕ coded_ℕ))
    (code (coded_list coded_ℕ) (coded× coded_ℕ coded_ℕ))) parts_of from_parts parts_again

-- the loss of a column in the first of these tables in which it is lost
abbrev pub loss_in_tables : Losses → List (List ℕ) → List ℕ → Option Loss
loss_in_tables losses tables n = first_loss (λ (r : List ℕ). column_loss losses r n) tables

-- under each of these names, what is lost of its table
abbrev pub put_names : (List ℕ → TableLoss) → List (List ℕ) → Losses → Losses
put_names of [] losses = losses
put_names of (n ∷ names) losses = put_names of names (insert losses n (of n))

-- what is lost of a made table, by its name
abbrev pub made_lost_of : Tables → Operator → Losses → List ℕ → TableLoss
made_lost_of tables op losses n = made_as (made_loss tables op losses)
    (made_column_loss op losses) (columns_of (schema_after tables op) n)

abbrev pub a_column : List ℕ → List ℕ → ColType → FilledColumn
a_column table name kind = record { table = table; name = name; kind = kind }

-- one goes back by a derived inverse
abbrev pub IsByInverse : WayBack → Type 0
IsByInverse (by_inverse inverse) = ⊤
IsByInverse (by_filling f) = ⊥
IsByInverse no_way = ⊥
