-- Databases that agree up to losses still do with an empty relation in the place of each lost one.
use Rattle.std.proofs.Common.{◌≡◌, ℕ, List, [], refl, sym, ap, ◌∙◌}
use Rattle.std.specs.Prelude.{Option, Some, None}
use Rattle.std.specs.Option.{option_map, unwrap_or}
use Rattle.std.specs.FinMap.{get}
use Rattle.prima_base.specs.Columns.{Column}
use Rattle.schema_catalog.specs.Tables.{Tables}
use Rattle.schema_catalog.specs.Databases.{cell, DatabaseEntry, Rows, Lost, Database, IsEntry}
use Rattle.schema_catalog.specs.Databases.{IsDatabase}
use Rattle.smo_ops_spec.specs.OneRow.{Relation}
use Rattle.smo_ops_spec.specs.Effects.{rows_under}
use Rattle.smo_ops_spec.specs.Making.{image}
use Rattle.smo_ops_spec.specs.Losses.{IsDatabaseWithLosses, loss_of}
use Rattle.smo_ops_versions_spec.specs.LostAsEmpty.{entry_emptied, whole}
use Rattle.smo_ops_versions_spec.proofs.WayDatabases.{none_is_lost}
use Rattle.smo_ops_versions_spec.proofs.WholeDatabases.{whole_at, whole_database}
use Rattle.smo_ops_versions_spec.specs.ColumnLosses.{Losses, lost_columns, kept_columns}
use Rattle.temporal_lang_losses_spec.specs.Agreeing.{AgreeUpTo}

pub none_is : (o : Option (List Column)) (x : Option DatabaseEntry) → IsEntry o x
    → loss_of x ≡ None
none_is None None h = refl
none_is None (Some x) h = absurd h
none_is (Some cs) None h = absurd h
none_is (Some cs) (Some (Rows rows)) h = refl
none_is (Some cs) (Some (Lost k i)) h = absurd h

same_rows : (x : Option DatabaseEntry) → rows_under (option_map entry_emptied x) ≡ rows_under x
same_rows None = refl
same_rows (Some (Rows rows)) = refl
same_rows (Some (Lost k i)) = refl

pub whole_rows : (db : Database) (n : List ℕ) → rows_under (get (whole db) n)
    ≡ rows_under (get db n)
whole_rows db n = ap rows_under (whole_at db n) ∙ same_rows (get db n)

pub first_is : (tables : Tables) (losses : Losses) (a b : Database) → AgreeUpTo tables losses a b
    → IsDatabaseWithLosses tables a
first_is tables losses a b h = λ n. (h n).first

pub second_is : (tables : Tables) (losses : Losses) (a b : Database)
    → AgreeUpTo tables losses a b → IsDatabaseWithLosses tables b
second_is tables losses a b h = λ n. (h n).second

pub whole_agree : (tables : Tables) (losses : Losses) (a b : Database)
    → AgreeUpTo tables losses a b → AgreeUpTo tables losses (whole a) (whole b)
whole_agree tables losses a b h = λ n.
    let first : IsDatabase tables (whole a) =
    whole_database tables a (first_is tables losses a b h) in
    let second : IsDatabase tables (whole b) =
    whole_database tables b (second_is tables losses a b h) in
    record {
      first = none_is_lost tables (whole a) first n;
      second = none_is_lost tables (whole b) second n;
      first_there = λ e. none_is (get tables n) (get (whole a) n) (first n);
      second_there = λ e. none_is (get tables n) (get (whole b) n) (second n);
      rows = λ e. ap (λ (rows : Relation). image (kept_columns (lost_columns (get losses n))
          (unwrap_or (get tables n) [])) (cell (unwrap_or (get tables n) [])) rows) (whole_rows a n)
          ∙ (h n).rows e
          ∙ sym (ap (λ (rows : Relation). image (kept_columns (lost_columns (get losses n))
          (unwrap_or (get tables n) [])) (cell (unwrap_or (get tables n) [])) rows)
          (whole_rows b n));
    }
