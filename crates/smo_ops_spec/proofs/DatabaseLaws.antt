-- Accepted changes keep a database of the tables.
use Rattle.std.proofs.Common.{◌≡◌, ◌+◌, ℕ, Bool, true, false, List, [], ◌∷◌, refl, sym, ap, subst}
use Rattle.std.proofs.Common.{◌∙◌}
use Rattle.std.specs.Prelude.{cond, Option, Some, None, is_some}
use Rattle.std.specs.Option.{unwrap_or}
use Rattle.std.specs.Ordering.{eq_by_cmp}
use Rattle.std.specs.FinMap.{get, insert, contains_key, get-insert}
use Rattle.std.specs.Cmp.Lexicographic.{nat_list_cmp_total}
use Rattle.prima_base.specs.declared.refusal.Refusal.TheVariants.{NoTable}
use Rattle.prima_base.specs.Order.{bytes_cmp}
use Rattle.prima_base.specs.Columns.{Column, IsRelation}
use Rattle.prima_base.specs.OrderLaws.{same_is}
use Rattle.schema_catalog.specs.Tables.{Tables, IsSchema}
use Rattle.schema_catalog.specs.Databases.{DatabaseEntry, Rows, Lost, Database, IsEntry, IsDatabase}
use Rattle.smo_ops_types.specs.Changes.{PlainChange, table_of}
use Rattle.smo_ops_spec.specs.First.{first_refusal}
use Rattle.smo_ops_spec.specs.OneRow.{Relation, same}
use Rattle.smo_ops_spec.specs.Effects.{relation_after, columns_of, with_changed, database_after}
use Rattle.smo_ops_spec.specs.Effects.{after_each}
use Rattle.smo_ops_spec.specs.Checks.{table_fault, tests_after, change_tests, changes_tests}
use Rattle.smo_ops_spec.specs.Checks.{change_nodes}
use Rattle.smo_ops_spec.proofs.Firsts.{none_of_both, none_of_first, met}
use Rattle.smo_ops_spec.proofs.RelationLaws.{keeps_relation}

-- another relation of the same columns in the place of a table's
pub with_rows : (tables : Tables) (database : Database) (t : List ℕ) (columns : List Column)
    (rows : Relation) → IsDatabase tables database
    → get tables t ≡ Some columns → IsRelation columns rows
    → IsDatabase tables (insert database t (Rows rows))
with_rows tables database t columns rows h there r = λ q.
    rw (get-insert nat_list_cmp_total database t (Rows rows) q)
    (step q (eq_by_cmp bytes_cmp q t) refl)
  where
    step : (q : List ℕ) (b : Bool) → same q t ≡ b
        → IsEntry (get tables q) (cond b (Some (Rows rows)) (get database q))
    step q true e = subst (λ (o : Option (List Column)). IsEntry o (Some (Rows rows)))
        (sym (ap (get tables) (same_is q t e) ∙ there)) r
    step q false e = h q

kept_at : (tables : Tables) (database : Database) (change : PlainChange) (at : ℕ) (t : List ℕ)
    → IsSchema tables → IsDatabase tables database
    → is_some (get tables t) ≡ true → first_refusal (tests_after (columns_of tables t) change at)
    ≡ None
    → (o : Option (List Column)) → get tables t ≡ o → (x : Option DatabaseEntry)
    → get database t ≡ x → IsEntry o x
    → IsDatabase tables (with_changed (relation_after (columns_of tables t) change) (get database t)
    t database)
kept_at tables database change at t s h there e None q x r i = absurd (cc)
kept_at tables database change at t s h there e (Some columns) q None r i = absurd i
kept_at tables database change at t s h there e (Some columns) q (Some (Lost k j)) r i = absurd i
kept_at tables database change at t s h there e (Some columns) q (Some (Rows rows)) r i =
    let c : columns_of tables t ≡ columns = ap (λ o. unwrap_or o []) q in
    rw (c, r) (with_rows tables database t columns (relation_after columns change rows) h q
    (keeps_relation columns change at rows (s t columns q) i
    (subst (λ (cs : List Column). first_refusal (tests_after cs change at) ≡ None) c e)))

pub change_keeps : (tables : Tables) (database : Database) (change : PlainChange) (at : ℕ)
    → IsSchema tables → IsDatabase tables database
    → first_refusal (change_tests tables change at) ≡ None
    → IsDatabase tables (database_after tables change database)
change_keeps tables database change at s h e =
    let t : List ℕ = table_of change in
    let parts = none_of_first (table_fault tables t) (tests_after (columns_of tables t) change at)
    e in
    kept_at tables database change at t s h (met (contains_key tables t) (NoTable t) parts.0)
    parts.1 (get tables t) refl (get database t) refl (h t)

pub changes_keep : (tables : Tables) (database : Database) (changes : List PlainChange) (at : ℕ)
    → IsSchema tables → IsDatabase tables database
    → first_refusal (changes_tests tables changes at) ≡ None
    → IsDatabase tables (after_each tables changes database)
changes_keep tables database [] at s h e = h
changes_keep tables database (c ∷ changes) at s h e =
    let parts = none_of_both (change_tests tables c at)
    (changes_tests tables changes (at + change_nodes c)) e in
    changes_keep tables (database_after tables c database) changes (at + change_nodes c) s
    (change_keeps tables database c at s h parts.0) parts.1
