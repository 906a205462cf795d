-- What a database has of one table after changes, of which some may be of others.
use Rattle.std.proofs.Common.{◌≡◌, ℕ, Bool, true, false, cond, List, [], ◌∷◌, refl, ap, ◌∙◌}
use Rattle.std.specs.Prelude.{Option, Some, None}
use Rattle.std.specs.List.{filter}
use Rattle.std.specs.Option.{unwrap_or}
use Rattle.std.specs.Cmp.Lexicographic.{nat_list_cmp_total}
use Rattle.std.specs.FinMap.{get, insert, get-insert}
use Rattle.prima_base.specs.Columns.{Column}
use Rattle.prima_base.specs.OrderLaws.{same_is}
use Rattle.schema_catalog.specs.Tables.{Tables}
use Rattle.schema_catalog.specs.Databases.{Database, DatabaseEntry, Rows}
use Rattle.smo_ops_types.specs.Changes.{PlainChange, table_of}
use Rattle.smo_ops_spec.specs.Effects.{relation_after, entry_after, columns_of, with_changed}
use Rattle.smo_ops_spec.specs.Effects.{database_after, after_each}
use Rattle.smo_ops_spec.specs.Inserting.{relation_after_each}
use Rattle.smo_ops_spec.specs.OneRow.{Relation, same}
use Rattle.smo_ops_spec.proofs.NameLaws.{same_itself, same_turned}

-- those of the table with this name, in order
abbrev pub of_table : List ℕ → List PlainChange → List PlainChange
of_table name changes = filter (λ c. same (table_of c) name) changes

pub get_other : (database : Database) (t name : List ℕ) (e : DatabaseEntry) → same t name ≡ false
    → get (insert database t e) name ≡ get database name
get_other database t name e q = get-insert nat_list_cmp_total database t e name
    ∙ ap (λ b. cond b (Some e) (get database name)) (same_turned name t ∙ q)

get_own : (database : Database) (t : List ℕ) (e : DatabaseEntry)
    → get (insert database t e) t ≡ Some e
get_own database t e = get-insert nat_list_cmp_total database t e t
    ∙ ap (λ b. cond b (Some e) (get database t)) (same_itself t)

other_entry : (f : Relation → Relation) (o : Option DatabaseEntry) (database : Database)
    (t name : List ℕ) → same t name ≡ false → get (with_changed f o t database) name
    ≡ get database name
other_entry f None database t name q = refl
other_entry f (Some e) database t name q = get_other database t name (entry_after f e) q

pub other_stays : (tables : Tables) (c : PlainChange) (database : Database) (name : List ℕ)
    → same (table_of c) name ≡ false → get (database_after tables c database) name
    ≡ get database name
other_stays tables c database name q = other_entry
    (relation_after (columns_of tables (table_of c)) c) (get database (table_of c)) database
    (table_of c) name q

module _ (tables : Tables) (name : List ℕ) (columns : List Column)
    (there : get tables name ≡ Some columns) where
  own_changed : (c : PlainChange) (database : Database) (rows : Relation) → table_of c ≡ name
      → get database name ≡ Some (Rows rows) → get (database_after tables c database) name
      ≡ Some (Rows (relation_after columns c rows))
  own_changed c database rows e h =
      ap (λ n. get (with_changed (relation_after (columns_of tables n) c) (get database n) n
      database) name) e
      ∙ ap (λ o. get (with_changed (relation_after (columns_of tables name) c) o name database)
      name) h
      ∙ get_own database name (Rows (relation_after (columns_of tables name) c rows))
      ∙ ap (λ cs. Some (Rows (relation_after cs c rows))) (ap (λ o. unwrap_or o []) there)

  pub changed_each : (changes : List PlainChange) (database : Database) (rows : Relation)
      → get database name ≡ Some (Rows rows)
      → get (after_each tables changes database) name
      ≡ Some (Rows (relation_after_each columns (of_table name changes) rows))
  changed_each [] database rows h = h
  changed_each (c ∷ changes) database rows h =
      step (changed_each changes) (same (table_of c) name) refl
    where
      step : ((database : Database) (rows : Relation) → get database name ≡ Some (Rows rows)
          → get (after_each tables changes database) name
          ≡ Some (Rows (relation_after_each columns (of_table name changes) rows)))
          → (b : Bool) → same (table_of c) name ≡ b
          → get (after_each tables changes (database_after tables c database)) name
          ≡ Some (Rows (relation_after_each columns
          (cond b (c ∷ of_table name changes) (of_table name changes)) rows))
      step again true q = again (database_after tables c database) (relation_after columns c rows)
          (own_changed c database rows (same_is (table_of c) name q) h)
      step again false q = again (database_after tables c database) rows
          (other_stays tables c database name q ∙ h)
