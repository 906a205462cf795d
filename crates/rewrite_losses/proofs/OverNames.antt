-- What is lost over an operator, by the names of the tables that it makes.
use Rattle.std.proofs.Common.{◌≡◌, ℕ, List, [], ◌∷◌, refl, sym, ap, ◌∙◌, inl, inr}
use Rattle.std.specs.Prelude.{None}
use Rattle.std.specs.Option.{unwrap_or}
use Rattle.std.specs.FinMap.{insert}
use Rattle.relations_spec.specs.Sets.{In}
use Rattle.prima_base.specs.Columns.{Column}
use Rattle.schema_catalog.specs.Tables.{Tables, columns_of}
use Rattle.smo_ops_types.specs.Operators.{Operator}
use Rattle.smo_ops_spec.specs.OperatorTable.{Made, line, made_names}
use Rattle.smo_ops_spec.specs.After.{op_fault, schema_after}
use Rattle.smo_ops_spec.proofs.TouchedTables.{made_is_there}
use Rattle.smo_ops_versions_spec.specs.ColumnLosses.{TableLoss, Losses}
use Rattle.smo_ops_versions_spec.specs.LostNames.{made_loss, made_column_loss, made_as, none_lost}
use Rattle.smo_ops_versions_spec.specs.LostNames.{with_made}
use Rattle.smo_ops_versions_spec.specs.LostNames.{losses_over}
use Rattle.rewrite_losses.specs.TableLosses.{put_names, made_lost_of}

by_names : (of : List Column → TableLoss) (after : Tables) (made : List Made) (losses : Losses)
    → ((m : Made) → In m made → columns_of after m.name ≡ m.columns)
    → put_names (λ n. of (columns_of after n)) (made_names made) losses
    ≡ with_made of made losses
by_names of after [] losses h = refl
by_names of after (m ∷ made) losses h =
    ap (λ (cs : List Column). put_names (λ n. of (columns_of after n)) (made_names made)
    (insert losses m.name (of cs))) (h m (inl refl))
    ∙ by_names of after made (insert losses m.name (of m.columns)) (λ x i. h x (inr i))

pub over_by_names : (tables : Tables) (op : Operator) (losses : Losses) (names : List (List ℕ))
    → op_fault tables op ≡ None → made_names (line tables op).made ≡ names
    → put_names (made_lost_of tables op losses) names (none_lost (line tables op).consumed losses)
    ≡ losses_over tables op losses
over_by_names tables op losses names e is =
    ap (λ (ns : List (List ℕ)). put_names (made_lost_of tables op losses) ns
    (none_lost (line tables op).consumed losses)) (sym is)
    ∙ by_names (made_as (made_loss tables op losses) (made_column_loss op losses))
    (schema_after tables op) (line tables op).made (none_lost (line tables op).consumed losses)
    (λ m i. ap (λ o. unwrap_or o []) (made_is_there tables op m e i))
