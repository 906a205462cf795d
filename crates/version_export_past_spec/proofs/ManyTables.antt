-- The changes of all tables lead from the one database to the other.
use Rattle.std.specs.Prelude.{◌≡◌, ℕ, ◌++◌, Bool, true, false, List, [], ◌∷◌, map, cond, T}
use Rattle.std.specs.Prelude.{Option, Some, None}
use Rattle.std.proofs.Common.{refl, sym, ap, subst, ◌∙◌, inl, inr, append-nil}
use Rattle.std.proofs.lemmas.List.Elements.{filter-append}
use Rattle.std.specs.Ordering.{is_lt}
use Rattle.std.specs.declared.cmp.Ordering.TheVariants.{Less}
use Rattle.std.specs.Cmp.Lexicographic.{nat_list_cmp_total}
use Rattle.std.specs.FinMap.{get, entries, find, is_sorted, get-entries}
use Rattle.std.specs.FinMap.{entries_sorted, same_map, slice_cmp-IsAntisymmetric}
use Rattle.std.specs.FinMap.{nat_cmp-IsAntisymmetric}
use Rattle.std.specs.FinMap.Entries.{below_all}
use Rattle.relations_spec.specs.Sets.{In}
use Rattle.prima_base.specs.Order.{bytes_cmp}
use Rattle.prima_base.specs.OrderLaws.{same_is}
use Rattle.prima_base.specs.Columns.{Column}
use Rattle.schema_catalog.specs.Places.{NamedColumns}
use Rattle.schema_catalog.specs.Tables.{Tables, IsSchema}
use Rattle.schema_catalog.specs.Databases.{Database, DatabaseEntry, Rows, Lost, IsEntry, IsDatabase}
use Rattle.smo_ops_types.specs.Changes.{PlainChange, table_of}
use Rattle.smo_ops_spec.specs.OneRow.{Relation, same}
use Rattle.smo_ops_spec.specs.Effects.{gained_rows, rows_under}
use Rattle.smo_ops_spec.specs.Effects.{database_after, after_each}
use Rattle.smo_ops_spec.specs.Inserting.{relation_after_each}
use Rattle.smo_ops_spec.proofs.CountingLaws.{first, second, less}
use Rattle.smo_ops_spec.proofs.ChangedTables.{of_table, other_stays, changed_each}
use Rattle.smo_ops_spec.proofs.NameLaws.{same_itself, same_not, same_turned}
use Rattle.version_export_past_spec.specs.Rows.{ending, beginning, table_changes, changes_between}
use Rattle.version_export_past_spec.proofs.TableChanges.{rebuilt}

-- ---- what a table has after changes

-- where no change is of the table, it stays
pub untouched : (tables : Tables) (name : List ℕ) (changes : List PlainChange) (database : Database)
    → ((c : PlainChange) → In c changes → same (table_of c) name ≡ false)
    → get (after_each tables changes database) name ≡ get database name
untouched tables name [] database h = refl
untouched tables name (c ∷ changes) database h =
    untouched tables name changes (database_after tables c database) (λ d m. h d (inr m))
    ∙ other_stays tables c database name (h c (inl refl))

-- ---- which changes are of a table

kept_all : {X : Type 0} (name : List ℕ) (f : X → PlainChange) (xs : List X)
    → ((x : X) → same (table_of (f x)) name ≡ true) → of_table name (map f xs) ≡ map f xs
kept_all name f [] h = refl
kept_all name f (x ∷ xs) h =
    ap (λ b. cond b (f x ∷ of_table name (map f xs)) (of_table name (map f xs))) (h x)
    ∙ ap (λ more. f x ∷ more) (kept_all name f xs h)

kept_none : {X : Type 0} (name : List ℕ) (f : X → PlainChange) (xs : List X)
    → ((x : X) → same (table_of (f x)) name ≡ false) → of_table name (map f xs) ≡ []
kept_none name f [] h = refl
kept_none name f (x ∷ xs) h =
    ap (λ b. cond b (f x ∷ of_table name (map f xs)) (of_table name (map f xs))) (h x)
    ∙ kept_none name f xs h

own_all : (t : NamedColumns) (name : List ℕ) (old new : Relation) → same t.0 name ≡ true
    → of_table name (table_changes t old new) ≡ table_changes t old new
own_all t name old new e =
    filter-append (λ c. same (table_of c) name) (map (ending t) (gained_rows new old))
    (map (beginning t) (gained_rows old new))
    ∙ ap (λ xs. xs ++ of_table name (map (beginning t) (gained_rows old new)))
    (kept_all name (ending t) (gained_rows new old) (λ r. e))
    ∙ ap (λ ys. map (ending t) (gained_rows new old) ++ ys)
    (kept_all name (beginning t) (gained_rows old new) (λ r. e))

own_none : (t : NamedColumns) (name : List ℕ) (old new : Relation) → same t.0 name ≡ false
    → of_table name (table_changes t old new) ≡ []
own_none t name old new e =
    filter-append (λ c. same (table_of c) name) (map (ending t) (gained_rows new old))
    (map (beginning t) (gained_rows old new))
    ∙ ap (λ xs. xs ++ of_table name (map (beginning t) (gained_rows old new)))
    (kept_none name (ending t) (gained_rows new old) (λ r. e))
    ∙ kept_none name (beginning t) (gained_rows old new) (λ r. e)

module _ (old new : Database) where
  abbrev of_one : NamedColumns → List PlainChange
  of_one t = table_changes t (rows_under (get old t.0)) (rows_under (get new t.0))

  -- those of tables with greater names
  none_above : (name : List ℕ) (tables : List NamedColumns) → T (below_all bytes_cmp name tables)
      → of_table name (changes_between tables old new) ≡ []
  none_above name [] b = refl
  none_above name (t ∷ tables) b =
      filter-append (λ c. same (table_of c) name) (of_one t) (changes_between tables old new)
      ∙ ap (λ xs. xs ++ of_table name (changes_between tables old new))
      (own_none t name (rows_under (get old t.0)) (rows_under (get new t.0))
      (same_turned t.0 name ∙ same_not name t.0 (less (bytes_cmp name t.0) (first _ _ b))))
      ∙ none_above name tables (second (is_lt (bytes_cmp name t.0)) _ b)

  pub changes_of_one : (tables : List NamedColumns) (t : NamedColumns)
      → T (is_sorted bytes_cmp tables) → In t tables
      → of_table t.0 (changes_between tables old new) ≡ of_one t
  changes_of_one [] t s m = absurd m
  changes_of_one (u ∷ tables) t s (inl q) =
      filter-append (λ c. same (table_of c) t.0) (of_one u) (changes_between tables old new)
      ∙ ap (λ xs. xs ++ of_table t.0 (changes_between tables old new))
      (own_all u t.0 (rows_under (get old u.0)) (rows_under (get new u.0))
      (ap (λ (x : NamedColumns). same u.0 x.0) (sym q) ∙ same_itself u.0))
      ∙ ap (λ ys. of_one u ++ ys) (none_above t.0 tables
      (subst (λ (x : NamedColumns). T (below_all bytes_cmp x.0 tables)) q (first _ _ s)))
      ∙ append-nil (of_one u) ∙ ap of_one q
  changes_of_one (u ∷ tables) t s (inr m) =
      filter-append (λ c. same (table_of c) t.0) (of_one u) (changes_between tables old new)
      ∙ ap (λ xs. xs ++ of_table t.0 (changes_between tables old new))
      (own_none u t.0 (rows_under (get old u.0)) (rows_under (get new u.0))
      (same_not u.0 t.0 (below u.0 tables (first _ _ s) m)))
      ∙ changes_of_one tables t (second (below_all bytes_cmp u.0 tables) _ s) m
    where
      below : (name : List ℕ) (ts : List NamedColumns) → T (below_all bytes_cmp name ts) → In t ts
          → bytes_cmp name t.0 ≡ Less
      below name [] b i = absurd i
      below name (x ∷ ts) b (inl p) = subst (λ (y : NamedColumns). bytes_cmp name y.0 ≡ Less) p
          (less (bytes_cmp name x.0) (first _ _ b))
      below name (x ∷ ts) b (inr i) = below name ts (second (is_lt (bytes_cmp name x.0)) _ b) i

-- ---- what stands in a list of tables

pair_is : (d : NamedColumns) (n : List ℕ) (x : List Column) → d.0 ≡ n → d.1 ≡ x
    → ◌≡◌ {A = NamedColumns} d (n, x)
pair_is d n x p q = λ i. (p i, q i)

in_found : (es : List NamedColumns) (n : List ℕ) (x : List Column) → find bytes_cmp n es ≡ Some x
    → In (n, x) es
in_found [] n x e = absurd (cc)
in_found (d ∷ es) n x e = step (same n d.0) refl e (in_found es n x)
  where
    one : Some d.1 ≡ Some x → d.1 ≡ x
    one q = cc

    step : (b : Bool) → same n d.0 ≡ b → cond b (Some d.1) (find bytes_cmp n es) ≡ Some x
        → (find bytes_cmp n es ≡ Some x → In (n, x) es) → In (n, x) (d ∷ es)
    step true q h more = inl (pair_is d n x (sym (same_is n d.0 q)) (one h))
    step false q h more = inr (more h)

pub found_table : (tables : Tables) (n : List ℕ) (x : List Column) → get tables n ≡ Some x
    → In (n, x) (entries tables)
found_table tables n x e = in_found (entries tables) n x (sym (get-entries tables n) ∙ e)

-- ---- of a database

module _ (tables : Tables) (schema : IsSchema tables) (old new : Database)
    (o : IsDatabase tables old) (n : IsDatabase tables new) where
  there_are : (name : List ℕ) (columns : List Column) → get tables name ≡ Some columns
      → (x y : Option DatabaseEntry) → get old name ≡ x → get new name ≡ y
      → IsEntry (Some columns) x → IsEntry (Some columns) y
      → get (after_each tables (changes_between (entries tables) old new) old) name ≡ get new name
  there_are name columns e None y p q i j = absurd i
  there_are name columns e (Some (Lost k l)) y p q i j = absurd i
  there_are name columns e (Some (Rows a)) None p q i j = absurd j
  there_are name columns e (Some (Rows a)) (Some (Lost k l)) p q i j = absurd j
  there_are name columns e (Some (Rows a)) (Some (Rows b)) p q i j =
      changed_each tables name columns e (changes_between (entries tables) old new) old a p
      ∙ ap (λ cs. Some (Rows (relation_after_each columns cs a)))
      (changes_of_one old new (entries tables) (name, columns) (entries_sorted tables)
      (found_table tables name columns e)
      ∙ ap (λ x. table_changes (name, columns) (rows_under x) (rows_under (get new name))) p
      ∙ ap (λ y. table_changes (name, columns) a (rows_under y)) q)
      ∙ ap (λ (r : Relation). Some (Rows r)) (rebuilt (name, columns) (schema name columns e) a b i
      j)
      ∙ sym q

  there_is_none : (x : Option DatabaseEntry) → IsEntry None x → x ≡ None
  there_is_none None i = refl
  there_is_none (Some e) i = absurd i

  -- the database after changes that are accepted is one of the tables
  module _ (kept : IsDatabase tables
      (after_each tables (changes_between (entries tables) old new) old)) where
    same_under : (name : List ℕ)
        → get (after_each tables (changes_between (entries tables) old new) old) name
        ≡ get new name
    same_under name = step (get tables name) refl
      where
        step : (t : Option (List Column)) → get tables name ≡ t
            → get (after_each tables (changes_between (entries tables) old new) old) name
            ≡ get new name
        step None e = there_is_none _ (subst (λ t. IsEntry t
            (get (after_each tables (changes_between (entries tables) old new) old) name)) e
            (kept name))
            ∙ sym (there_is_none (get new name) (subst (λ t. IsEntry t (get new name)) e (n name)))
        step (Some columns) e = there_are name columns e (get old name) (get new name) refl refl
            (subst (λ t. IsEntry t (get old name)) e (o name))
            (subst (λ t. IsEntry t (get new name)) e (n name))

    pub all_rebuilt : after_each tables (changes_between (entries tables) old new) old ≡ new
    all_rebuilt = same_map nat_list_cmp_total (slice_cmp-IsAntisymmetric nat_cmp-IsAntisymmetric)
        (after_each tables (changes_between (entries tables) old new) old) new same_under
