-- Stored tables that are those of a schema, in the order of their names.
use Rattle.std.proofs.Common.{◌≡◌, ◌<◌, ℕ, Bool, true, false, cond, List, [], ◌∷◌, length, get_or}
use Rattle.std.proofs.Common.{map}
use Rattle.std.proofs.Common.{T, refl, sym, ap, subst, ◌∙◌}
use Rattle.std.specs.Prelude.{Option, Some, None, ◌&&◌, slice_get, ⊤}
use Rattle.std.specs.Option.{option_map}
use Rattle.std.specs.Ordering.{is_lt}
use Rattle.std.specs.declared.cmp.Ordering.{Ordering}
use Rattle.std.specs.declared.cmp.Ordering.TheVariants.{Less}
use Rattle.std.specs.FinMap.{get, len, entries, find, is_sorted, entries_sorted, from_sorted}
use Rattle.std.specs.FinMap.{entries-from_sorted, get-from_sorted, same_map, len-entries}
use Rattle.std.specs.FinMap.{slice_cmp-IsAntisymmetric, nat_cmp-IsAntisymmetric}
use Rattle.std.specs.FinMap.Entries.{below_all}
use Rattle.std.specs.Cmp.Lexicographic.{nat_list_cmp_total}
use Rattle.std.proofs.lemmas.List.{length-map}
use Rattle.std.proofs.lemmas.Option.{slice_get-get_or, slice_get-map, same_Some}
use Rattle.relations_spec.specs.Sets.{BeforeAll, Ascends}
use Rattle.prima_base.specs.Order.{bytes_cmp}
use Rattle.prima_base.specs.Columns.{Column}
use Rattle.schema_catalog.specs.Tables.{Tables, table_names}
use Rattle.schema_catalog.specs.Databases.{Database}
use Rattle.history_store.specs.Store.{Store}
use Rattle.smo_ops_spec.specs.Effects.{rows_under}
use Rattle.smo_ops_spec.specs.OneRow.{Relation, same}
use Rattle.smo_ops_spec.proofs.NameLaws.{same_turned}
use Rattle.version_groups_tables.specs.declared.made_table.MadeTable.{MadeTable}
use Rattle.version_groups_tables.specs.Changing.{AreOfSchema}
use Rattle.version_groups_tables.specs.Stored.{stored_as, stored_names}
use Rattle.version_groups_tables.specs.NewestTables.{IsStoredEntry, AreStored}
use Rattle.version_groups_tables.proofs.BegunTables.{names_rise}

abbrev Listed : Type 0
Listed = List ℕ × List Column

pub names_ascend : (tables : Tables) → Ascends bytes_cmp (table_names tables)
names_ascend tables = names_rise (λ name columns store. ⊤) (entries tables) (entries_sorted tables)

-- ---- stored tables, each by its name and its columns

abbrev listed : MadeTable → Listed
listed table = (table.name, table.store.columns)

both : (a b : Bool) → T a → T b → T (a && b)
both true b p q = q
both false b p q = absurd p

is_less : (o : Ordering) → o ≡ Less → T (is_lt o)
is_less o e = subst (λ x. T (is_lt x)) (sym e) tt

below : (n : List ℕ) (made : List MadeTable) → BeforeAll bytes_cmp n (stored_names made)
    → T (below_all bytes_cmp n (map listed made))
below n [] h = tt
below n (t ∷ made) h = both (is_lt (bytes_cmp n t.name)) _ (is_less (bytes_cmp n t.name) h.0)
    (below n made h.1)

sorted : (made : List MadeTable) → Ascends bytes_cmp (stored_names made)
    → T (is_sorted bytes_cmp (map listed made))
sorted [] h = tt
sorted (t ∷ made) h = both (below_all bytes_cmp t.name (map listed made)) _
    (below t.name made h.0) (sorted made h.1)

abbrev its_columns : Option Store → Option (List Column)
its_columns o = option_map (λ (s : Store). s.columns) o

chosen : (b : Bool) (store : Store) (f : Option (List Column)) (s : Option Store)
    → f ≡ its_columns s → cond b (Some store.columns) f ≡ its_columns (cond b (Some store) s)
chosen true store f s e = refl
chosen false store f s e = e

found : (name : List ℕ) (made : List MadeTable)
    → find bytes_cmp name (map listed made) ≡ its_columns (stored_as name made)
found name [] = refl
found name (t ∷ made) =
    chosen (same name t.name) t.store (find bytes_cmp name (map listed made))
    (stored_as name made) (found name made)
    ∙ ap (λ b. its_columns (cond b (Some t.store) (stored_as name made)))
    (same_turned name t.name)

-- ---- tables that are those of a schema

stored_columns : (stamp : ℕ) (rows : Relation) (o : Option (List Column)) (s : Option Store)
    → IsStoredEntry stamp rows o s → o ≡ its_columns s
stored_columns stamp rows None None h = refl
stored_columns stamp rows None (Some store) h = absurd h
stored_columns stamp rows (Some columns) None h = absurd h
stored_columns stamp rows (Some columns) (Some store) h = ap (λ cs. Some cs) (sym h.columns)

pub of_schema : (tables : Tables) (database : Database) (stamp : ℕ) (made : List MadeTable)
    → Ascends bytes_cmp (stored_names made) → AreStored tables database stamp made
    → AreOfSchema tables made
of_schema tables database stamp made ordered stored =
    let es = map listed made in
    let s = sorted made ordered in
    let same_tables : tables ≡ from_sorted {R = bytes_cmp} es =
    same_map nat_list_cmp_total (slice_cmp-IsAntisymmetric nat_cmp-IsAntisymmetric) tables
    (from_sorted {R = bytes_cmp} es)
    (λ name. stored_columns stamp (rows_under (get database name)) (get tables name)
    (stored_as name made) (stored name) ∙ sym (found name made)
    ∙ sym (get-from_sorted bytes_cmp es name s)) in
    ap (λ (t : Tables). entries t) same_tables ∙ entries-from_sorted bytes_cmp es s

listed_names : (made : List MadeTable)
    → map (λ (e : Listed). e.0) (map listed made) ≡ stored_names made
listed_names [] = refl
listed_names (t ∷ made) = ap (λ ns. t.name ∷ ns) (listed_names made)

module _ (tables : Tables) (made : List MadeTable) (are : AreOfSchema tables made) where
  -- their names
  pub same_names : table_names tables ≡ stored_names made
  same_names = ap (map (λ (e : Listed). e.0)) are ∙ listed_names made

  -- how many they are
  pub as_many_as : len tables ≡ length made
  as_many_as = len-entries tables ∙ ap length are ∙ length-map made listed

  -- the columns of the one at a place
  pub columns_at : (i : ℕ) (t : MadeTable) (e : Listed) → i < length made → get_or made i t ≡ t
      → slice_get (entries tables) i ≡ Some e → t.store.columns ≡ e.1
  columns_at i t e l here at =
      let is : Some (listed t) ≡ Some e =
      ap (λ (x : MadeTable). Some (listed x)) (sym here)
      ∙ ap (option_map listed) (sym (slice_get-get_or made i t l))
      ∙ sym (slice_get-map listed made i) ∙ ap (λ (es : List Listed). slice_get es i) (sym are)
      ∙ at in
      ap (λ (x : Listed). x.1) (same_Some (listed t) e is)
