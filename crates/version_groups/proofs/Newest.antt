-- The stored tables of the newest version: what they stand for, and what changes make of them.
use Rattle.std.proofs.Common.{◌≡◌, ◌<◌, ℕ, suc, List, [], ◌∷◌, length, get_or, refl, sym, ap, subst}
use Rattle.std.proofs.Common.{◌∙◌, arith}
use Rattle.std.specs.Prelude.{Option, Some, None}
use Rattle.std.specs.FinMap.{get, same_map, slice_cmp-IsAntisymmetric, nat_cmp-IsAntisymmetric}
use Rattle.std.specs.Cmp.Lexicographic.{nat_list_cmp_total}
use Rattle.relations_spec.specs.Spans.{forever}
use Rattle.relations_spec.specs.Sets.{Ascends}
use Rattle.prima_base.specs.Order.{bytes_cmp}
use Rattle.prima_base.specs.Columns.{Column}
use Rattle.prima_base.specs.declared.value.Value.{Value}
use Rattle.schema_catalog.specs.Tables.{Tables, IsSchema}
use Rattle.schema_catalog.specs.Databases.{Database, DatabaseEntry, Rows, Lost, IsEntry, IsDatabase}
use Rattle.history_store.specs.Store.{Store, relation_at, AllBefore}
use Rattle.history_store.specs.Change.{PreparedChange}
use Rattle.smo_ops_spec.specs.Accepts.{command_fault}
use Rattle.smo_ops_types.specs.Changes.{PlainChange}
use Rattle.smo_ops_spec.specs.Checks.{changes_fault}
use Rattle.smo_ops_types.specs.Commands.{PlainBody}
use Rattle.smo_ops_spec.specs.Effects.{rows_under, after_each, gained, lost}
use Rattle.smo_ops_spec.specs.Past.{Past, no_tables, tables_of, newest_tables, newest_database}
use Rattle.smo_ops_spec.proofs.CountingLaws.{self_gains_nothing}
use Rattle.smo_ops_spec.proofs.DatabaseLaws.{changes_keep}
use Rattle.smo_ops_spec.proofs.PastSteps.{stamp_accepted}
use Rattle.version_groups_tables.specs.declared.made_table.MadeTable.{MadeTable}
use Rattle.version_groups_tables.specs.Stored.{stored_as, stored_names}
use Rattle.version_groups_tables.specs.Becoming.{Leads}
use Rattle.version_groups_tables.specs.Changing.{rows_now, rows_after, AreChangeable, ArePrepared}
use Rattle.version_groups_tables.specs.Changing.{all_gained}
use Rattle.version_groups_tables.specs.Changing.{all_lost}
use Rattle.version_groups_tables.specs.NewestTables.{IsStoredEntry, AreStored}
use Rattle.smo_ops_spec.proofs.ChangedTables.{changed_each}
use Rattle.version_groups_tables.proofs.TablesChanged.{accepted_of, stored_there}
use Rattle.version_groups_tables.proofs.TablesCounted.{with_after, HasNow, counted, got, not_stored}
use Rattle.version_groups_tables.proofs.TablesCounted.{IsStored, is_stored}
use Rattle.version_groups.specs.Groups.{Kept, group_of, table_in}
use Rattle.smo_ops_spec.proofs.PastMoments.{newest_tables_from, is_later}
use Rattle.version_groups.specs.Representation.{RepresentsEntry, Represents}
use Rattle.version_groups.specs.Steps.{a_command, AreChanges}
use Rattle.version_groups.proofs.Installed.{newest_own, newest_is}

-- ---- of a past that is shown

module _ (kept : Kept) (past : Past) (stamp : ℕ) (body : PlainBody)
    (represents : Represents kept past)
    (valid : stamp < forever) (accepted : command_fault past (a_command stamp body) ≡ None) where
  stands_entry : (name : List ℕ) (o : Option (List Column)) (s : Option Store)
      → RepresentsEntry past (length past.versions) name o s
      → IsStoredEntry stamp (rows_under (get (newest_database past) name)) o s
  stands_entry name None None h = tt
  stands_entry name None (Some store) h = absurd h
  stands_entry name (Some columns) None h = absurd h
  stands_entry name (Some columns) (Some store) h =
      let own = newest_own kept past stamp body represents valid accepted in
      record {
        columns = h.columns;
        rows = h.shown stamp own ∙ ap (λ d. rows_under (get d name))
            (newest_is kept past stamp body represents valid accepted stamp (omega arith));
        before = h.stamps stamp own (is_later past.last stamp
            (stamp_accepted past (a_command stamp body) accepted));
      }

  pub stands : AreStored (newest_tables past) (newest_database past) stamp
      (group_of kept (length past.versions))
  stands name =
      subst (λ (t : Tables). IsStoredEntry stamp (rows_under (get (newest_database past) name))
      (get t name) (table_in kept (length past.versions) name))
      (newest_tables_from no_tables past.versions)
      (stands_entry name (get (tables_of past (length past.versions)) name)
      (table_in kept (length past.versions) name)
      (represents.tables (length past.versions) name (omega arith)))

-- ---- tables that stand for a database

module _ (tables : Tables) (database : Database) (stamp : ℕ) (made : List MadeTable)
    (ordered : Ascends bytes_cmp (stored_names made))
    (stored : AreStored tables database stamp made) where
  -- what is stored under a name that has a table
  pub record Stands (name : List ℕ) (store : Store) : Type 0 where
    pub columns : get tables name ≡ Some store.columns
    pub rows : relation_at store stamp ≡ rows_under (get database name)
    pub before : AllBefore store stamp

  of_entry : (name : List ℕ) (o : Option (List Column)) (store : Store) → get tables name ≡ o
      → IsStoredEntry stamp (rows_under (get database name)) o (Some store) → Stands name store
  of_entry name None store e h = absurd h
  of_entry name (Some columns) store e h = record {
    columns = e
        ∙ ap (λ cs. Some cs) (sym h.columns);
    rows = h.rows;
    before = h.before;
  }

  pub stands_under : (name : List ℕ) (store : Store) → stored_as name made ≡ Some store
      → Stands name store
  stands_under name store e =
      of_entry name (get tables name) store refl
      (subst (λ (s : Option Store). IsStoredEntry stamp (rows_under (get database name))
      (get tables name) s) e (stored name))

  pub stands_at : (k : ℕ) (d : MadeTable) → k < length made
      → Stands (get_or made k d).name (get_or made k d).store
  stands_at k d l = stands_under (get_or made k d).name (get_or made k d).store
      (stored_there made k d ordered l)

  pub changeable : (changes : List PlainChange) → changes_fault tables changes ≡ None
      → AreChangeable stamp changes made
  changeable changes accepted k d l =
      let h = stands_at k d l in
      record {
        accepted = accepted_of tables (get_or made k d).name (get_or made k d).store.columns
            h.columns changes 0 accepted;
        before = h.before;
      }

  -- the database has the rows of each
  rows_there : (name : List ℕ) (columns : List Column) (o : Option DatabaseEntry)
      → IsEntry (Some columns) o → o ≡ Some (Rows (rows_under o))
  rows_there name columns None h = absurd h
  rows_there name columns (Some (Rows rows)) h = refl
  rows_there name columns (Some (Lost k i)) h = absurd h

  pub has_rows : IsDatabase tables database → (name : List ℕ) (store : Store) → Stands name store
      → get database name ≡ Some (Rows (relation_at store stamp))
  has_rows whole name store h =
      rows_there name store.columns (get database name)
      (subst (λ (o : Option (List Column)). IsEntry o (get database name)) h.columns
      (whole name))
      ∙ ap (λ r. Some (Rows r)) (sym h.rows)

  -- after its changes each has what the database has then
  after_is : IsDatabase tables database → (changes : List PlainChange) (t : MadeTable)
      → Stands t.name t.store → rows_after stamp changes t
      ≡ rows_under (get (after_each tables changes database) t.name)
  after_is whole changes t h =
      sym (ap rows_under (changed_each tables t.name t.store.columns h.columns changes database
      (rows_now stamp t) (has_rows whole t.name t.store h)))

  pub are_changes : IsDatabase tables database
      → (changes : List PlainChange) (new : List MadeTable)
      (prepared : List (Option PreparedChange))
      → ArePrepared stamp changes new prepared → length new ≡ length made
      → ((k : ℕ) (d : MadeTable) → k < length made
      → ((get_or new k d).name ≡ (get_or made k d).name)
      × (rows_after stamp changes (get_or new k d)
      ≡ rows_after stamp changes (get_or made k d)))
      → AreChanges stamp (after_each tables changes database) new prepared
  are_changes whole changes new prepared ready long same = record {
    count = ready.count;
    each = λ k d l.
        let m : k < length made = omega (arith, l, long) in
        subst (λ r. Leads (get_or new k d).store stamp r (get_or prepared k None))
        ((same k d m).1 ∙ after_is whole changes (get_or made k d) (stands_at k d m)
        ∙ ap (λ n. rows_under (get (after_each tables changes database) n))
        (sym (same k d m).0))
        (ready.each k d l);
  }

  -- ---- counts
  has_each : IsDatabase tables database → (changes : List PlainChange) (rest : List MadeTable)
      → ((k : ℕ) (d : MadeTable) → k < length rest
      → Stands (get_or rest k d).name (get_or rest k d).store) → HasNow stamp changes rest database
  has_each whole changes [] h = tt
  has_each whole changes (t ∷ rest) h = (
    has_rows whole t.name t.store (h 0 t (omega arith)),
    has_each whole changes rest (λ k d l. h (suc k) d (omega (arith, l))),
  )

  nothing_there : (o : Option DatabaseEntry) → IsEntry None o → o ≡ None
  nothing_there None h = refl
  nothing_there (Some entry) h = absurd h

  nothing_stored : (rows : List (List Value)) (s : Option Store) → IsStoredEntry stamp rows None s
      → s ≡ None
  nothing_stored rows None h = refl
  nothing_stored rows (Some store) h = absurd h

  something_stored : (rows : List (List Value)) (columns : List Column) (s : Option Store)
      → IsStoredEntry stamp rows (Some columns) s → (store : Store) × (s ≡ Some store)
  something_stored rows columns None h = absurd h
  something_stored rows columns (Some store) h = (store, refl)

  module _ (schema : IsSchema tables) (whole : IsDatabase tables database)
      (changes : List PlainChange) (accepted : changes_fault tables changes ≡ None) where
    abbrev after : Database
    after = after_each tables changes database

    own_after : (name : List ℕ) (s : Store) → (r : IsStored stamp changes made name
        (get database name) s) → stored_as name made ≡ Some s
        → Some (Rows (rows_after stamp changes r.table)) ≡ get after name
    own_after name s r e =
        let under : stored_as r.table.name made ≡ Some r.table.store =
        ap (λ n. stored_as n made) r.named ∙ e ∙ ap (λ x. Some x) (sym r.store) in
        let h = stands_under r.table.name r.table.store under in
        sym (changed_each tables r.table.name r.table.store.columns h.columns changes database
        (rows_now stamp r.table) (has_rows whole r.table.name r.table.store h))
        ∙ ap (get after) r.named

    each_after : (name : List ℕ) (o : Option (List Column)) → get tables name ≡ o
        → get (with_after stamp changes made database) name ≡ get after name
    each_after name None e =
        got stamp changes made database name ordered
        ∙ not_stored stamp changes made name (get database name)
        (nothing_stored (rows_under (get database name)) (stored_as name made)
        (subst (λ (p : Option (List Column)).
        IsStoredEntry stamp (rows_under (get database name)) p (stored_as name made)) e
        (stored name)))
        ∙ nothing_there (get database name) (subst
        (λ (p : Option (List Column)). IsEntry p (get database name)) e (whole name))
        ∙ sym (nothing_there (get after name)
        (subst (λ (p : Option (List Column)). IsEntry p (get after name)) e
        (changes_keep tables database changes 0 schema whole accepted name)))
    each_after name (Some columns) e =
        let s = something_stored (rows_under (get database name)) columns (stored_as name made)
        (subst (λ (p : Option (List Column)).
        IsStoredEntry stamp (rows_under (get database name)) p (stored_as name made)) e
        (stored name)) in
        let r = is_stored stamp changes made name (get database name) s.0 s.1 in
        got stamp changes made database name ordered ∙ r.entry ∙ own_after name s.0 r s.1

    same_after : with_after stamp changes made database ≡ after
    same_after = same_map nat_list_cmp_total (slice_cmp-IsAntisymmetric nat_cmp-IsAntisymmetric)
        (with_after stamp changes made database) after
        (λ name. each_after name (get tables name) refl)

    -- the tables gain and lose what the database gains and loses
    pub counts : (all_gained stamp changes made ≡ gained database after)
        × (all_lost stamp changes made ≡ lost database after)
    counts =
        let now = has_each whole changes made stands_at in
        let c = counted stamp changes made database database ordered now now in
        let none = self_gains_nothing database in
        let g = c.0 in
        let l = c.1 in
        let same = same_after in
        let more : gained database (with_after stamp changes made database)
        ≡ gained database after = ap (gained database) same in
        let less : lost database (with_after stamp changes made database) ≡ lost database after =
        ap (lost database) same in
        (omega arith, omega arith)
