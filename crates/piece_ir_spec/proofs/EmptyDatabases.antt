-- Each schema has a database: that with no rows.
use Rattle.std.proofs.Common.{◌≡◌, ℕ, Bool, true, false, List, [], ◌∷◌, refl, sym, ap, subst, ◌∙◌}
use Rattle.std.specs.Prelude.{cond, ◌||◌, is_some, Option, Some, None}
use Rattle.std.specs.List.{list_any}
use Rattle.std.specs.Ordering.{eq_by_cmp}
use Rattle.std.specs.FinMap.{get, insert, empty, keys, get-insert, get-empty, contains_key-keys}
use Rattle.std.specs.Cmp.Lexicographic.{nat_list_cmp_total}
use Rattle.prima_base.specs.Order.{bytes_cmp}
use Rattle.prima_base.specs.Columns.{Column}
use Rattle.schema_catalog.specs.Tables.{Tables}
use Rattle.schema_catalog.specs.Databases.{DatabaseEntry, Rows, Database, IsEntry}
use Rattle.smo_ops_spec.specs.OneRow.{same}
use Rattle.smo_ops_spec.specs.ValidValues.{EntryHolds}
use Rattle.piece_ir_spec.specs.Rules.{IsValidDatabase}

with_none : List (List ℕ) → Database
with_none [] = empty
with_none (n ∷ names) = insert (with_none names) n (Rows [])

with_none_at : (names : List (List ℕ)) (q : List ℕ)
    → get (with_none names) q ≡ cond (list_any (eq_by_cmp bytes_cmp q) names) (Some (Rows [])) None
unfolding with_none
with_none_at [] q = get-empty bytes_cmp q
with_none_at (n ∷ names) q =
    get-insert nat_list_cmp_total (with_none names) n (Rows []) q
    ∙ ap (λ o. cond (same q n) (Some (Rows [])) o) (with_none_at names q)
    ∙ step (same q n) (list_any (eq_by_cmp bytes_cmp q) names)
  where
    step : (a b : Bool) → ◌≡◌ {A = Option DatabaseEntry}
        (cond a (Some (Rows [])) (cond b (Some (Rows [])) None))
        (cond (a || b) (Some (Rows [])) None)
    step true b = refl
    step false b = refl

pub no_rows_of : Tables → Database
no_rows_of tables = with_none (keys tables)

pub is_valid : (tables : Tables) → IsValidDatabase tables (no_rows_of tables)
unfolding no_rows_of
is_valid tables = record {
  database = λ n. subst (IsEntry (get tables n)) (sym (with_none_at (keys tables) n))
      (entry (get tables n) (list_any (eq_by_cmp bytes_cmp n) (keys tables))
      (contains_key-keys tables n));
  values = λ n. subst EntryHolds (sym (with_none_at (keys tables) n))
      (held (list_any (eq_by_cmp bytes_cmp n) (keys tables)));
}
  where
    entry : (o : Option (List Column)) (b : Bool) → is_some o ≡ b
        → IsEntry o (cond b (Some (Rows [])) None)
    entry None true e = absurd (cc)
    entry None false e = tt
    entry (Some cs) true e = record { ascending = tt; fitting = λ row m. absurd m }
    entry (Some cs) false e = absurd (cc)

    held : (b : Bool) → EntryHolds (cond b (Some (Rows [])) None)
    held true = λ row m. absurd m
    held false = tt
