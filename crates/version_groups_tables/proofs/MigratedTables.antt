-- The rows of the tables of the next version are those of the carried database.
use Rattle.std.proofs.Common.{◌≡◌, ℕ, Bool, true, false, cond, List, [], ◌∷◌, ◌++◌, refl, sym, ap}
use Rattle.std.proofs.Common.{subst, ◌∙◌}
use Rattle.std.specs.Prelude.{Option, Some, None, slice_get, ◌||◌, if◌then◌else◌}
use Rattle.std.specs.List.{filter}
use Rattle.std.specs.FinMap.{get, entries}
use Rattle.relations_spec.proofs.SetLaws.{from_filter}
use Rattle.prima_base.specs.Columns.{Column, IsRelation}
use Rattle.prima_base.specs.OrderLaws.{same_is}
use Rattle.schema_catalog.specs.Tables.{Tables, IsSchema}
use Rattle.schema_catalog.specs.Databases.{Database, DatabaseEntry, Rows, Lost, IsEntry, IsDatabase}
use Rattle.history_store.specs.Store.{Store}
use Rattle.smo_ops_types.specs.Operators.{Operator}
use Rattle.smo_ops_spec.specs.OperatorTable.{line, made_names}
use Rattle.smo_ops_spec.specs.After.{op_fault, schema_after, migrate}
use Rattle.smo_ops_spec.specs.Effects.{rows_under}
use Rattle.smo_ops_spec.specs.OneRow.{Relation, same}
use Rattle.smo_ops_spec.specs.Preconditions.{among}
use Rattle.smo_ops_spec.specs.Touching.{makes, consumes, these_names}
use Rattle.smo_ops_spec.specs.Evolutions.{one_makes}
use Rattle.smo_ops_spec.proofs.NameLaws.{same_turned}
use Rattle.smo_ops_spec.proofs.OneMembers.{one_makes_of_one}
use Rattle.smo_ops_spec.proofs.TouchedTables.{table_stays, entry_stays, table_gone}
use Rattle.smo_ops_spec.proofs.MigratedDatabases.{migrated_database}
use Rattle.smo_maps.specs.Carrying.{Has}
use Rattle.version_groups_tables.specs.declared.made_table.MadeTable.{MadeTable}
use Rattle.version_groups_tables.specs.Stored.{stored_as}
use Rattle.version_groups_tables.specs.Becoming.{Begins}
use Rattle.version_groups_tables.specs.NewestTables.{IsStoredEntry, AreStored, rows_stored}
use Rattle.version_groups_tables.specs.NewestTables.{MadeRows}
use Rattle.version_groups_tables.specs.NewestTables.{is_name, is_made, next_rows, FitNext}
use Rattle.version_groups_tables.specs.NewestTables.{IsStoredBefore}
use Rattle.version_groups_tables.specs.NewestTables.{OthersStay}
use Rattle.version_groups_tables.specs.Evolving.{AreNext, BeginsEntry}
use Rattle.version_groups_tables.specs.Places.{at_places}
use Rattle.version_groups_tables.specs.Beginning.{BeginsWith, BeginInOrder}
use Rattle.version_groups_tables.proofs.LifelinesEnded.{among_these}
use Rattle.version_groups_tables.proofs.PlacedTables.{filter_alike, listed_in, begin_alike}
use Rattle.version_groups_tables.proofs.PlacedTables.{placed_alike}

not_named : (name a : List ℕ) (names : List (List ℕ)) → same a name ≡ false
    → among name names ≡ false → among name (a ∷ names) ≡ false
not_named name a names q h = ap (λ b. b || among name names) (same_turned name a ∙ q) ∙ h

-- what a database has under a name, by the rows of at most two names and of the others
module _ (database : Database) (name : List ℕ) (rows others rest : Relation) where
  found : (a : List ℕ) (r : Relation) → same a name ≡ true → get database a ≡ Some (Rows r)
      → r ≡ rows_under (get database name)
  found a r q h = sym (ap (λ n. rows_under (get database n)) (sym (same_is a name q))
      ∙ ap rows_under h)

  pub by_names : (f s : Option (List ℕ)) → s ≡ slice_get (these_names f s) 1
      → Has (these_names f s) database rows others
      → (among name (these_names f s) ≡ false → rest ≡ rows_under (get database name))
      → (if is_name f name then rows else if is_name s name then others else rest)
      ≡ rows_under (get database name)
  by_names None None e h k = k refl
  by_names None (Some b) e h k = absurd (cc)
  by_names (Some a) None e h k = step (same a name) refl
    where
      step : (t : Bool) → same a name ≡ t → cond t rows rest ≡ rows_under (get database name)
      step true q = found a rows q h.0
      step false q = k (not_named name a [] q refl)
  by_names (Some a) (Some b) e h k = step (same a name) refl (same b name) refl
    where
      step : (t : Bool) → same a name ≡ t → (u : Bool) → same b name ≡ u
          → cond t rows (cond u others rest) ≡ rows_under (get database name)
      step true q u p = found a rows q h.0
      step false q true p = found b others p h.1
      step false q false p = k (not_named name a (b ∷ []) q (not_named name b [] p refl))

-- neither of at most two names is this one
neither : (f s : Option (List ℕ)) (name : List ℕ) → is_name f name ≡ false → is_name s name ≡ false
    → among name (these_names f s) ≡ false
neither None None name a b = refl
neither None (Some y) name a b = refl
neither (Some x) None name a b = not_named name x [] a refl
neither (Some x) (Some y) name a b = not_named name x (y ∷ []) a (not_named name y [] b refl)

module _ (before : Tables) (op : Operator) (database : Database) (stamp : ℕ) (made : List MadeTable)
    (schema : IsSchema before) (accepted : op_fault before op ≡ None)
    (whole : IsDatabase before database) (stored : AreStored before database stamp made) where
  abbrev next : Database
  next = migrate before op database

  entry_rows : (o : Option (List Column)) (p : Option DatabaseEntry) (s : Option Store)
      → IsEntry o p → IsStoredEntry stamp (rows_under p) o s → rows_stored stamp s ≡ rows_under p
  entry_rows None None None h k = refl
  entry_rows None None (Some store) h k = absurd k
  entry_rows None (Some entry) s h k = absurd h
  entry_rows (Some columns) p None h k = absurd k
  entry_rows (Some columns) p (Some store) h k = k.rows

  -- a table that the operator does not make
  stays : (name : List ℕ) (columns : List Column) → get (schema_after before op) name ≡ Some columns
      → makes before op name ≡ false → rows_stored stamp (stored_as name made)
      ≡ rows_under (get next name)
  stays name columns there unmade = step (consumes before op name) refl
    where
      step : (b : Bool) → consumes before op name ≡ b
          → rows_stored stamp (stored_as name made) ≡ rows_under (get next name)
      step true q = absurd (let gone = table_gone before op name unmade q in cc)
      step false q = entry_rows (get before name) (get database name) (stored_as name made)
          (whole name) (stored name) ∙ ap rows_under
          (sym (entry_stays before op name unmade database q))

  module _ (it : MadeRows) (names : made_names (line before op).made
      ≡ these_names it.first it.second) (second : it.second
      ≡ slice_get (made_names (line before op).made) 1)
      (has : Has (made_names (line before op).made) next it.rows it.others) where
    pub next_is : (name : List ℕ) (columns : List Column)
        → get (schema_after before op) name ≡ Some columns
        → next_rows it stamp made name ≡ rows_under (get next name)
    next_is name columns there =
        by_names next name it.rows it.others (rows_stored stamp (stored_as name made)) it.first
        it.second (second ∙ ap (λ ns. slice_get ns 1) names)
        (subst (λ ns. Has ns next it.rows it.others) names has)
        (λ e. stays name columns there (ap (among name) names ∙ e))

    of_entry : (columns : List Column) (p : Option DatabaseEntry) → IsEntry (Some columns) p
        → IsRelation columns (rows_under p)
    of_entry columns None h = absurd h
    of_entry columns (Some (Rows rows)) h = h
    of_entry columns (Some (Lost i j)) h = absurd h

    pub fit_next : FitNext (schema_after before op) it stamp made
    fit_next name columns there =
        subst (IsRelation columns) (sym (next_is name columns there))
        (of_entry columns (get next name) (subst
        (λ (o : Option (List Column)). IsEntry o (get next name)) there
        (migrated_database before op database schema accepted whole name)))

    -- a table that is not made is stored
    stored_before : (columns : List Column) (rows : Relation) (s : Option Store)
        → IsStoredEntry stamp rows (Some columns) s → IsStoredBefore stamp columns s
    stored_before columns rows None h = absurd h
    stored_before columns rows (Some store) h = (h.columns, h.before)

    pub others_next : OthersStay (schema_after before op) it stamp made
    others_next name columns there first other = step (consumes before op name) refl
      where
        unmade : makes before op name ≡ false
        unmade = ap (among name) names ∙ neither it.first it.second name first other

        step : (b : Bool) → consumes before op name ≡ b
            → IsStoredBefore stamp columns (stored_as name made)
        step true q = absurd (let gone = table_gone before op name unmade q in cc)
        step false q =
            stored_before columns (rows_under (get database name)) (stored_as name made)
            (subst (λ (o : Option (List Column)).
            IsStoredEntry stamp (rows_under (get database name)) o (stored_as name made))
            (sym (table_stays before op name unmade q) ∙ there) (stored name))

    pub begins_next : (name : List ℕ) (s : Option Store)
        → BeginsEntry stamp (next_rows it stamp made name) (get (schema_after before op) name) s
        → BeginsEntry stamp (rows_under (get next name)) (get (schema_after before op) name) s
    begins_next name s = step (get (schema_after before op) name) refl s
      where
        step : (o : Option (List Column)) → get (schema_after before op) name ≡ o
            → (s : Option Store) → BeginsEntry stamp (next_rows it stamp made name) o s
            → BeginsEntry stamp (rows_under (get next name)) o s
        step None e None h = tt
        step None e (Some store) h = absurd h
        step (Some columns) e None h = absurd h
        step (Some columns) e (Some store) h =
            subst (λ (r : Relation). Begins columns stamp r store) (next_is name columns e) h

    -- the same of a schema that is the next one
    module _ (after : Tables) (is : after ≡ schema_after before op) where
      pub fit_after : FitNext after it stamp made
      fit_after = subst (λ (t : Tables). FitNext t it stamp made) (sym is) fit_next

      pub begins_after : (name : List ℕ) (s : Option Store)
          → BeginsEntry stamp (next_rows it stamp made name) (get after name) s
          → BeginsEntry stamp (rows_under (get next name)) (get after name) s
      begins_after name s h =
          subst (λ (t : Tables). BeginsEntry stamp (rows_under (get next name)) (get t name) s)
          (sym is)
          (begins_next name s (subst (λ (t : Tables).
          BeginsEntry stamp (next_rows it stamp made name) (get t name) s) is h))

      pub others_after : OthersStay after it stamp made
      others_after = subst (λ (t : Tables). OthersStay t it stamp made) (sym is) others_next

      -- which are made
      pub made_is : (name : List ℕ) → is_made it name ≡ one_makes before (op ∷ []) name
      made_is name =
          sym (among_these it.first it.second name (second ∙ ap (λ ns. slice_get ns 1) names))
          ∙ sym (ap (among name) names) ∙ sym (one_makes_of_one before op name)

      -- so what begins and goes on by names and rows that were made is what the operator, which
      -- has this one member, makes and carries
      pub next_evolved : (places : List ℕ) (version : ℕ) (own : List MadeTable)
          (begun : List MadeTable) (next_places : List ℕ)
          → AreNext own places version stamp (is_made it) (next_rows it stamp made) after begun
          next_places → AreNext own places version stamp (one_makes before (op ∷ []))
          (λ name. rows_under (get next name)) after begun next_places
      next_evolved places version own begun next_places h = record {
        begin = begin_alike version stamp (λ name. rows_under (get next name))
            (next_rows it stamp made) (filter (λ (e : List ℕ × List Column).
            one_makes before (op ∷ []) e.0)
            (entries after)) begun
            (λ e i. next_is e.0 e.1 (ap (λ (t : Tables). get t e.0) (sym is)
            ∙ listed_in after e (from_filter (λ (x : List ℕ × List Column).
            one_makes before (op ∷ []) x.0) e (entries after) i).0))
            (subst (λ (es : List (List ℕ × List Column)).
            BeginInOrder (BeginsWith version stamp (next_rows it stamp made)) es begun)
            (filter_alike (λ (x : List ℕ × List Column). is_made it x.0)
            (λ (x : List ℕ × List Column). one_makes before (op ∷ []) x.0) (entries after)
            (λ x. made_is x.0)) h.begin);
        placed = placed_alike own begun places (is_made it) (one_makes before (op ∷ [])) after
            next_places
            made_is h.placed;
        there = h.there;
        ordered = h.ordered;
        tables = λ name. begins_after name (stored_as name (at_places (own ++ begun) next_places))
            (h.tables name);
      }
