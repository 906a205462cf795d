-- Columns that are left of a table's are a table's again, and a table put in its place again.
use Rattle.std.proofs.Common.{◌≡◌, ℕ, Bool, true, false, List, refl, sym, ap, ◌∙◌}
use Rattle.std.specs.Prelude.{cond, not, Option, Some, None}
use Rattle.std.specs.Ordering.{eq_by_cmp}
use Rattle.std.specs.FinMap.{insert, remove, get, get-insert, get-remove, same_map}
use Rattle.std.specs.FinMap.{slice_cmp-IsAntisymmetric, nat_cmp-IsAntisymmetric}
use Rattle.std.specs.Cmp.Lexicographic.{nat_list_cmp_total}
use Rattle.prima_base.specs.Order.{bytes_cmp}
use Rattle.prima_base.specs.Columns.{Column, AreColumns}
use Rattle.schema_catalog.specs.Tables.{Tables}
use Rattle.smo_ops_spec.specs.OneRow.{same}
use Rattle.smo_ops_spec.specs.Preconditions.{among}
use Rattle.smo_ops_spec.specs.Making.{without, named}
use Rattle.smo_ops_spec.proofs.KeptColumns.{kept_are_columns}

pub without_are_columns : (n : List ℕ) (cs : List Column) → AreColumns cs
    → AreColumns (without n cs)
without_are_columns n cs h = kept_are_columns (λ c. not (same c.0 n)) cs h

pub named_are_columns : (names : List (List ℕ)) (cs : List Column) → AreColumns cs
    → AreColumns (named names cs)
named_are_columns names cs h = kept_are_columns (λ c. among c.0 names) cs h

-- a table put in its place again
pub put_again : (tables : Tables) (r : List ℕ) (columns : List Column)
    → insert tables r columns ≡ insert (remove tables r) r columns
put_again tables r columns = same_map nat_list_cmp_total
    (slice_cmp-IsAntisymmetric nat_cmp-IsAntisymmetric) _ _
    (λ q. get-insert nat_list_cmp_total tables r columns q
    ∙ step (eq_by_cmp bytes_cmp q r) (get tables q)
    ∙ sym (get-insert nat_list_cmp_total (remove tables r) r columns q
    ∙ ap (λ (g : Option (List Column)). cond (eq_by_cmp bytes_cmp q r) (Some columns) g)
    (get-remove nat_list_cmp_total tables r q)))
  where
    step : (b : Bool) (g : Option (List Column))
        → cond b (Some columns) g ≡ cond b (Some columns) (cond b None g)
    step true g = refl
    step false g = refl
