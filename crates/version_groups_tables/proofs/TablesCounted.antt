-- The rows that the tables gain and lose are those of the database.
use Rattle.std.proofs.Common.{◌≡◌, ◌+◌, ℕ, Bool, true, false, cond, List, [], ◌∷◌, length, refl}
use Rattle.std.proofs.Common.{sym, ap, ◌∙◌, arith}
use Rattle.std.specs.Prelude.{Option, Some, None, ⊤}
use Rattle.std.specs.FinMap.{get, insert, get-insert}
use Rattle.std.specs.Cmp.Lexicographic.{nat_list_cmp_total}
use Rattle.relations_spec.specs.Sets.{BeforeAll, Ascends}
use Rattle.prima_base.specs.Order.{bytes_cmp}
use Rattle.prima_base.specs.OrderLaws.{same_is}
use Rattle.schema_catalog.specs.Databases.{Database, DatabaseEntry, Rows}
use Rattle.history_store.specs.Store.{Store}
use Rattle.smo_ops_types.specs.Changes.{PlainChange}
use Rattle.smo_ops_spec.specs.Effects.{gained, lost, gained_rows}
use Rattle.smo_ops_spec.specs.OneRow.{Relation, same}
use Rattle.smo_ops_spec.proofs.CountingLaws.{gains_nothing, gained_step, lost_with}
use Rattle.smo_ops_spec.proofs.NameLaws.{same_not, same_turned}
use Rattle.version_groups_tables.specs.declared.made_table.MadeTable.{MadeTable}
use Rattle.version_groups_tables.specs.Stored.{stored_as, stored_names}
use Rattle.version_groups_tables.specs.Changing.{rows_now, rows_after, all_gained, all_lost}

module _ (stamp : ℕ) (changes : List PlainChange) where
  -- the database with the rows after the changes
  abbrev pub with_after : List MadeTable → Database → Database
  with_after [] database = database
  with_after (t ∷ tables) database = with_after tables
      (insert database t.name (Rows (rows_after stamp changes t)))

  -- the database has the rows of these tables
  abbrev pub HasNow : List MadeTable → Database → Type 0
  HasNow [] database = ⊤
  HasNow (t ∷ tables) database = (get database t.name ≡ Some (Rows (rows_now stamp t)))
      × HasNow tables database

  still_has : (t : MadeTable) (e : DatabaseEntry) (tables : List MadeTable) (database : Database)
      → BeforeAll bytes_cmp t.name (stored_names tables) → HasNow tables database
      → HasNow tables (insert database t.name e)
  still_has t e [] database b h = tt
  still_has t e (u ∷ tables) database b h = (
    get-insert nat_list_cmp_total database t.name e u.name
        ∙ ap (λ x. cond x (Some e) (get database u.name))
        (same_turned u.name t.name ∙ same_not t.name u.name b.0) ∙ h.0,
    still_has t e tables database b.1 h.1,
  )

  pub counted : (tables : List MadeTable) (old new : Database)
      → Ascends bytes_cmp (stored_names tables)
      → HasNow tables old → HasNow tables new
      → (gained old (with_after tables new) ≡ gained old new + all_gained stamp changes tables)
      × (lost old (with_after tables new) ≡ lost old new + all_lost stamp changes tables)
  counted [] old new a h k = (omega arith, omega arith)
  counted (t ∷ tables) old new a h k =
      let was : Relation = rows_now stamp t in
      let now : Relation = rows_after stamp changes t in
      let g = gained_step old t.name (Rows was) (Rows now) new (Rows was) h.0 k.0 in
      let l = lost_with new t.name (Rows was) (Rows now) k.0 old (Rows was) h.0 in
      let none : length (gained_rows was was) ≡ 0 = ap length (gains_nothing was) in
      let rest = counted tables old (insert new t.name (Rows now)) a.1 h.1
      (still_has t (Rows now) tables new a.0 k.1) in
      let more = rest.0 in
      let less = rest.1 in
      (omega arith, omega arith)

  -- what stands under a name then
  abbrev pub after_entry : List MadeTable → List ℕ → Option DatabaseEntry → Option DatabaseEntry
  after_entry [] name o = o
  after_entry (t ∷ tables) name o = cond (same t.name name)
      (Some (Rows (rows_after stamp changes t))) (after_entry tables name o)

  no_other : (t : MadeTable) (tables : List MadeTable) (o : Option DatabaseEntry)
      → BeforeAll bytes_cmp t.name (stored_names tables) → after_entry tables t.name o ≡ o
  no_other t [] o b = refl
  no_other t (u ∷ tables) o b =
      ap (λ x. cond x (Some (Rows (rows_after stamp changes u))) (after_entry tables t.name o))
      (same_turned u.name t.name ∙ same_not t.name u.name b.0) ∙ no_other t tables o b.1

  pub got : (tables : List MadeTable) (database : Database) (name : List ℕ)
      → Ascends bytes_cmp (stored_names tables) → get (with_after tables database) name
      ≡ after_entry tables name (get database name)
  got [] database name a = refl
  got (t ∷ tables) database name a = got tables (insert database t.name e) name a.1
      ∙ ap (after_entry tables name) (get-insert nat_list_cmp_total database t.name e name)
      ∙ step (same t.name name) refl
    where
      e : DatabaseEntry
      e = Rows (rows_after stamp changes t)

      step : (b : Bool) → same t.name name ≡ b
          → after_entry tables name (cond (same name t.name) (Some e) (get database name))
          ≡ cond (same t.name name) (Some e) (after_entry tables name (get database name))
      step true q =
          ap (λ x. after_entry tables name (cond x (Some e) (get database name)))
          (same_turned name t.name ∙ q)
          ∙ ap (λ n. after_entry tables n (Some e)) (sym (same_is t.name name q))
          ∙ no_other t tables (Some e) a.0
          ∙ sym (ap (λ x. cond x (Some e) (after_entry tables name (get database name))) q)
      step false q =
          ap (λ x. after_entry tables name (cond x (Some e) (get database name)))
          (same_turned name t.name ∙ q)
          ∙ sym (ap (λ x. cond x (Some e) (after_entry tables name (get database name))) q)

  -- where nothing is stored under the name, and where something is
  pub not_stored : (tables : List MadeTable) (name : List ℕ) (o : Option DatabaseEntry)
      → stored_as name tables ≡ None → after_entry tables name o ≡ o
  not_stored [] name o e = refl
  not_stored (t ∷ tables) name o e = step (not_stored tables name o) (same t.name name) refl e
    where
      step : (stored_as name tables ≡ None → after_entry tables name o ≡ o) → (b : Bool)
          → same t.name name ≡ b → cond b (Some t.store) (stored_as name tables) ≡ None
          → cond (same t.name name) (Some (Rows (rows_after stamp changes t)))
          (after_entry tables name o) ≡ o
      step again true q h = absurd (cc)
      step again false q h = ap (λ x. cond x (Some (Rows (rows_after stamp changes t)))
          (after_entry tables name o)) q ∙ again h

  pub record IsStored (tables : List MadeTable) (name : List ℕ) (o : Option DatabaseEntry)
      (s : Store) : Type 0 where
    pub table : MadeTable
    pub named : table.name ≡ name
    pub store : table.store ≡ s
    pub entry : after_entry tables name o ≡ Some (Rows (rows_after stamp changes table))

  pub is_stored : (tables : List MadeTable) (name : List ℕ) (o : Option DatabaseEntry) (s : Store)
      → stored_as name tables ≡ Some s → IsStored tables name o s
  is_stored [] name o s e = absurd (cc)
  is_stored (t ∷ tables) name o s e = step (is_stored tables name o s) (same t.name name) refl e
    where
      step : (stored_as name tables ≡ Some s → IsStored tables name o s) → (b : Bool)
          → same t.name name ≡ b → cond b (Some t.store) (stored_as name tables) ≡ Some s
          → IsStored (t ∷ tables) name o s
      step again true q h = record {
        table = t;
        named = same_is t.name name q;
        store = (let w : t.store ≡ s = cc in w);
        entry = ap (λ x. cond x (Some (Rows (rows_after stamp changes t)))
            (after_entry tables name o)) q;
      }
      step again false q h =
          let r = again h in
          record {
            table = r.table;
            named = r.named;
            store = r.store;
            entry = ap (λ x. cond x (Some (Rows (rows_after stamp changes t)))
                (after_entry tables name o)) q ∙ r.entry;
          }
