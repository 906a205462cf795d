-- On the way each database is one of the version that is reached, with losses.
use Rattle.std.proofs.Common.{◌≡◌, ◌+◌, ℕ, Bool, true, false, List, [], ◌∷◌, refl}
use Rattle.std.proofs.Common.{sym, ap, subst, ◌∙◌}
use Rattle.std.specs.Prelude.{cond, ◌||◌, is_some, Option, Some, None}
use Rattle.std.specs.FinMap.{get, insert, get-insert}
use Rattle.std.specs.Cmp.Lexicographic.{nat_list_cmp_total}
use Rattle.prima_base.specs.Columns.{Column}
use Rattle.schema_catalog.specs.Tables.{Tables}
use Rattle.schema_catalog.specs.Databases.{DatabaseEntry, Rows, Lost, Database, IsEntry, IsDatabase}
use Rattle.smo_ops_types.specs.Operators.{Operator}
use Rattle.smo_ops_types.specs.Commands.{PlainVersion}
use Rattle.smo_ops_spec.specs.OneRow.{same}
use Rattle.smo_ops_spec.specs.Preconditions.{among}
use Rattle.smo_ops_spec.specs.OperatorTable.{line, made_names}
use Rattle.smo_ops_spec.specs.Touching.{makes, consumes}
use Rattle.smo_ops_spec.specs.After.{op_fault, schema_after, lose_all}
use Rattle.smo_ops_spec.specs.Losses.{IsEntryOrLost, IsDatabaseWithLosses, Loss}
use Rattle.smo_ops_spec.specs.Past.{no_tables, tables_from}
use Rattle.smo_ops_spec.specs.ValidPast.{AreVersions}
use Rattle.smo_ops_spec.specs.WaysBack.{blank, filled_with}
use Rattle.smo_ops_versions_spec.specs.Steps.{Step, carrying, filling, undoing, tables_before}
use Rattle.smo_ops_versions_spec.specs.Steps.{tables_behind, taken}
use Rattle.smo_ops_versions_spec.specs.Steps.{IsLawful, Lead}
use Rattle.smo_ops_versions_spec.specs.Ways.{to_next, from_next, way}
use Rattle.smo_ops_versions_spec.specs.Migration.{lost_by, undone, stepped, migrate_along, back}
use Rattle.smo_ops_versions_spec.specs.Migration.{migrated_from}
use Rattle.smo_ops_spec.proofs.MigratedDatabases.{migrated_with_losses}
use Rattle.smo_ops_spec.proofs.TouchedTables.{lost_others, table_stays, consumed_is_there}
use Rattle.smo_ops_spec.proofs.TouchedTables.{made_is_free}
use Rattle.smo_ops_versions_spec.proofs.StepLaws.{led}
use Rattle.smo_ops_versions_spec.proofs.WayLeads.{next_leads, back_leads, way_leads}

-- ---- losses among databases

not_lost : (o : Option (List Column)) (x : Option DatabaseEntry) → IsEntry o x → IsEntryOrLost o x
not_lost None None h = tt
not_lost None (Some x) h = absurd h
not_lost (Some cs) None h = absurd h
not_lost (Some cs) (Some (Rows rows)) h = h
not_lost (Some cs) (Some (Lost k i)) h = tt

pub none_is_lost : (tables : Tables) (db : Database) → IsDatabase tables db
    → IsDatabaseWithLosses tables db
none_is_lost tables db h = λ n. not_lost (get tables n) (get db n) (h n)

-- ---- what is lost by an operator that is taken back

pub lost_by_at : (loss : Loss) (names : List (List ℕ)) (db : Database) (n : List ℕ)
    → get (lost_by loss names db) n ≡ cond (among n names) (Some (Lost loss.0 loss.1)) (get db n)
lost_by_at loss [] db n = refl
lost_by_at loss (r ∷ names) db n =
    lost_by_at loss names (insert db r (Lost loss.0 loss.1)) n
    ∙ ap (λ o. cond (among n names) (Some (Lost loss.0 loss.1)) o)
    (get-insert nat_list_cmp_total db r (Lost loss.0 loss.1) n)
    ∙ step (same n r) (among n names) (get db n)
  where
    step : (a b : Bool) (o : Option DatabaseEntry)
        → cond b (Some (Lost loss.0 loss.1)) (cond a (Some (Lost loss.0 loss.1)) o)
        ≡ cond (a || b) (Some (Lost loss.0 loss.1)) o
    step true true o = refl
    step true false o = refl
    step false b o = refl

module _ (loss : Loss) (before : Tables) (op : Operator)
    (accepted : op_fault before op ≡ None) where
  -- what stands under a name after the way back over an operator with no inverse
  pub unnamed_at : (db : Database) (n : List ℕ) → get (undone loss before op db) n
      ≡ cond (consumes before op n) (Some (Lost loss.0 loss.1))
      (cond (makes before op n) None (get db n))
  unnamed_at db n =
      lost_by_at loss (line before op).consumed (lose_all (made_names (line before op).made) db) n
      ∙ ap (λ o. cond (consumes before op n) (Some (Lost loss.0 loss.1)) o)
      (lost_others (made_names (line before op).made) db n)

  -- a table that is there, and is not consumed, is not made
  pub unmade : (n : List ℕ) → is_some (get before n) ≡ true → consumes before op n ≡ false
      → makes before op n ≡ false
  unmade n there kept = step (makes before op n) refl
    where
      step : (b : Bool) → makes before op n ≡ b → makes before op n ≡ false
      step true e = absurd (let h = made_is_free before op n accepted e there in cc)
      step false e = e

  unnamed_entry : (n : List ℕ) (db : Database) → IsDatabaseWithLosses (schema_after before op) db
      → (c m : Bool) → consumes before op n ≡ c → makes before op n ≡ m → (o : Option (List Column))
      → get before n ≡ o
      → IsEntryOrLost o (cond c (Some (Lost loss.0 loss.1)) (cond m None (get db n)))
  unnamed_entry n db h true m p q None e = absurd
      (let t = consumed_is_there before op n accepted p in let g = ap is_some e in cc)
  unnamed_entry n db h true m p q (Some cs) e = tt
  unnamed_entry n db h false true p q None e = tt
  unnamed_entry n db h false true p q (Some cs) e =
      absurd (let f = made_is_free before op n accepted q (ap is_some e) in cc)
  unnamed_entry n db h false false p q o e =
      subst (λ x. IsEntryOrLost x (get db n)) (table_stays before op n q p ∙ e) (h n)

  pub unnamed_database : (db : Database) → IsDatabaseWithLosses (schema_after before op) db
      → IsDatabaseWithLosses before (undone loss before op db)
  unnamed_database db h = λ n.
      subst (IsEntryOrLost (get before n)) (sym (unnamed_at db n))
      (unnamed_entry n db h (consumes before op n) (makes before op n) refl refl (get before n)
      refl)

-- ---- over one step, and along the way

pub step_database : (s : Step) (db : Database) → IsLawful s
    → IsDatabaseWithLosses (tables_before s) db
    → IsDatabaseWithLosses (tables_behind s) (stepped s db)
step_database (carrying tables op) db l h = migrated_with_losses tables op db l.valid.schema
    l.accepted h
step_database (filling loss tables f) db l h =
    migrated_with_losses tables (filled_with blank f) db l.valid.schema l.accepted h
step_database (undoing loss tables op) db l h = unnamed_database loss tables op l.accepted db h

pub steps_database : (before after : Tables) (steps : List Step) (db : Database)
    → Lead before steps after → IsDatabaseWithLosses before db
    → IsDatabaseWithLosses after (taken stepped steps db)
steps_database before after steps db l h = led IsDatabaseWithLosses stepped
    (λ s x g k. step_database s x g k) before after steps db l h

module _ (versions : List PlainVersion) (are : AreVersions None no_tables versions) where
  pub migrate_database : (k : ℕ) (db : Database)
      → IsDatabaseWithLosses (tables_from no_tables versions k) db
      → IsDatabaseWithLosses (tables_from no_tables versions (k + 1)) (migrate_along versions k db)
  migrate_database k db h = steps_database (tables_from no_tables versions k)
      (tables_from no_tables versions (k + 1)) (to_next versions k) db (next_leads versions are k) h

  pub back_over_database : (k : ℕ) (db : Database)
      → IsDatabaseWithLosses (tables_from no_tables versions (k + 1)) db
      → IsDatabaseWithLosses (tables_from no_tables versions k) (back versions k db)
  back_over_database k db h = steps_database (tables_from no_tables versions (k + 1))
      (tables_from no_tables versions k) (from_next versions k) db (back_leads versions are k) h

  pub migrated_database : (v q : ℕ) (db : Database)
      → IsDatabaseWithLosses (tables_from no_tables versions v) db
      → IsDatabaseWithLosses (tables_from no_tables versions q) (migrated_from versions v q db)
  migrated_database v q db h = steps_database (tables_from no_tables versions v)
      (tables_from no_tables versions q) (way versions v q) db (way_leads versions are v q) h
