-- Maps of losses: of tables, and of the tables that are not lost themselves, of columns.
use Rattle.std.specs.Prelude.{◌≡◌, ℕ, List, [], ◌∷◌, Option, Some, None, is_none}
use Rattle.std.specs.List.{filter}
use Rattle.std.specs.FinMap.{FinMap, get, insert, empty}
use Rattle.prima_base.specs.Order.{bytes_cmp}
use Rattle.prima_base.specs.Columns.{Column}
use Rattle.smo_ops_spec.specs.Losses.{Loss}

-- a table is lost itself, or these of its columns are
pub data TableLoss : Type 0 where
  WholeTable : Loss → TableLoss
  OfColumns : FinMap bytes_cmp Loss → TableLoss

abbrev pub Losses : Type 0
Losses = FinMap bytes_cmp TableLoss

-- the loss of the table itself, and those of its columns
abbrev pub whole_loss : Option TableLoss → Option Loss
whole_loss None = None
whole_loss (Some (WholeTable loss)) = Some loss
whole_loss (Some (OfColumns lost)) = None

abbrev pub lost_columns : Option TableLoss → FinMap bytes_cmp Loss
lost_columns None = empty
lost_columns (Some (WholeTable loss)) = empty
lost_columns (Some (OfColumns lost)) = lost

-- the loss of a table, and of a column of it; none where it is not mapped
abbrev pub table_loss : Losses → List ℕ → Option Loss
table_loss losses n = whole_loss (get losses n)

abbrev pub column_loss : Losses → List ℕ → List ℕ → Option Loss
column_loss losses n c = get (lost_columns (get losses n)) c

-- neither a table is lost, nor a column of one
abbrev pub NothingLost : Losses → Type 0
NothingLost losses = (n : List ℕ) → (table_loss losses n ≡ None)
    × ((c : List ℕ) → column_loss losses n c ≡ None)

-- the losses of these columns
abbrev pub put_loss : Option Loss → List ℕ → FinMap bytes_cmp Loss → FinMap bytes_cmp Loss
put_loss None n lost = lost
put_loss (Some loss) n lost = insert lost n loss

abbrev pub gathered : List Column → (List ℕ → Option Loss) → FinMap bytes_cmp Loss
gathered [] loss = empty
gathered (c ∷ columns) loss = put_loss (loss c.0) c.0 (gathered columns loss)

-- the columns that are not lost
abbrev pub kept_columns : FinMap bytes_cmp Loss → List Column → List Column
kept_columns lost columns = filter (λ (c : Column). is_none (get lost c.0)) columns
