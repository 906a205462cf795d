-- Databases that agree but for what is lost.
use Rattle.std.specs.Prelude.{◌≡◌, ℕ, List, [], Option, None}
use Rattle.std.specs.Option.{unwrap_or}
use Rattle.std.specs.FinMap.{get}
use Rattle.prima_base.specs.Columns.{Column}
use Rattle.schema_catalog.specs.Tables.{Tables}
use Rattle.schema_catalog.specs.Databases.{cell, DatabaseEntry, Database}
use Rattle.smo_ops_spec.specs.OneRow.{Relation}
use Rattle.smo_ops_spec.specs.Effects.{rows_under}
use Rattle.smo_ops_spec.specs.Making.{image}
use Rattle.smo_ops_spec.specs.Losses.{IsEntryOrLost, loss_of}
use Rattle.smo_ops_versions_spec.specs.ColumnLosses.{TableLoss, Losses, whole_loss, lost_columns}
use Rattle.smo_ops_versions_spec.specs.ColumnLosses.{kept_columns}

-- the rows of a table over its columns that are not lost
abbrev pub kept_rows : Option (List Column) → Option TableLoss → Option DatabaseEntry → Relation
kept_rows columns lost entry = image (kept_columns (lost_columns lost) (unwrap_or columns []))
    (cell (unwrap_or columns [])) (rows_under entry)

-- What two databases have under one name: each a relation of the table's columns or the loss of
-- one. Where the table is not mapped it is lost in neither, and both have the same rows over its
-- columns that are not mapped.
pub record AgreeAt (columns : Option (List Column)) (lost : Option TableLoss)
    (a b : Option DatabaseEntry) : Type 0 where
  pub first : IsEntryOrLost columns a
  pub second : IsEntryOrLost columns b
  pub first_there : whole_loss lost ≡ None → loss_of a ≡ None
  pub second_there : whole_loss lost ≡ None → loss_of b ≡ None
  pub rows : whole_loss lost ≡ None → kept_rows columns lost a ≡ kept_rows columns lost b

-- two databases of these tables agree up to the losses
abbrev pub AgreeUpTo : Tables → Losses → Database → Database → Type 0
AgreeUpTo tables losses a b = (name : List ℕ)
    → AgreeAt (get tables name) (get losses name) (get a name) (get b name)
