-- All changes between two databases of one schema are accepted and within their counts.
use Rattle.std.specs.Prelude.{◌≡◌, ◌≤◌, ℕ, List, [], ◌∷◌, map, cond, T}
use Rattle.std.specs.Prelude.{length, Option, Some, None}
use Rattle.std.proofs.Common.{refl, ap, subst, ◌∙◌, inl, inr, arith}
use Rattle.std.specs.Ordering.{is_lt}
use Rattle.std.specs.declared.cmp.Ordering.TheVariants.{Less}
use Rattle.std.specs.FinMap.{get, entries, find, is_sorted, entries_sorted, get-entries}
use Rattle.std.specs.FinMap.Entries.{below_all}
use Rattle.relations_spec.specs.Sets.{In}
use Rattle.relations_spec.proofs.SetLaws.{in_append, from_map, from_flat_map}
use Rattle.prima_base.specs.Limits.{max_changes}
use Rattle.prima_base.specs.Order.{bytes_cmp}
use Rattle.prima_base.specs.Columns.{Column, IsRow, IsRelation}
use Rattle.schema_catalog.specs.Places.{NamedColumns}
use Rattle.schema_catalog.specs.Tables.{Tables, IsSchema}
use Rattle.schema_catalog.specs.Databases.{Database, DatabaseEntry, Rows, Lost, IsEntry, IsDatabase}
use Rattle.smo_ops_types.specs.Changes.{PlainChange}
use Rattle.smo_ops_types.specs.Commands.{changing}
use Rattle.smo_ops_spec.specs.First.{first_refusal}
use Rattle.smo_ops_spec.specs.OneRow.{Row, Relation, same}
use Rattle.smo_ops_spec.specs.Preconditions.{AreNarrow}
use Rattle.smo_ops_spec.specs.Effects.{gained_rows, rows_under}
use Rattle.smo_ops_spec.specs.Checks.{change_tests, changes_tests}
use Rattle.smo_ops_spec.specs.Counts.{change_counts, first_excess}
use Rattle.smo_ops_spec.proofs.CountingLaws.{first, second, less}
use Rattle.smo_ops_spec.proofs.NameLaws.{same_itself, same_not, same_turned}
use Rattle.version_export_past_spec.specs.Rows.{row_cells, ending, beginning, table_changes}
use Rattle.version_export_past_spec.specs.Rows.{changes_between}
use Rattle.version_export_past_spec.proofs.TableChanges.{from_gained}
use Rattle.version_export_past_spec.proofs.Acceptance.{cells_count, ending_accepted}
use Rattle.version_export_past_spec.proofs.Acceptance.{beginning_accepted}
use Rattle.version_export_past_spec.proofs.Acceptance.{row_counted, AllCounted, all_counted}
use Rattle.version_export_past_spec.proofs.Acceptance.{AllFine}
use Rattle.version_export_past_spec.proofs.Acceptance.{all_accepted}

-- ---- a table is found under its own name

below_in : (x : List ℕ) (es : List NamedColumns) (e : NamedColumns) → T (below_all bytes_cmp x es)
    → In e es → bytes_cmp x e.0 ≡ Less
below_in x [] e b m = absurd m
below_in x (d ∷ es) e b (inl q) = subst (λ (y : NamedColumns). bytes_cmp x y.0 ≡ Less) q
    (less (bytes_cmp x d.0) (first _ _ b))
below_in x (d ∷ es) e b (inr m) = below_in x es e (second (is_lt (bytes_cmp x d.0)) _ b) m

found_in : (es : List NamedColumns) (e : NamedColumns) → T (is_sorted bytes_cmp es) → In e es
    → find bytes_cmp e.0 es ≡ Some e.1
found_in [] e s m = absurd m
found_in (d ∷ es) e s (inl q) =
    ap (λ b. cond b (Some d.1) (find bytes_cmp e.0 es))
    (ap (λ (x : NamedColumns). same e.0 x.0) q ∙ same_itself e.0)
    ∙ ap (λ (x : NamedColumns). Some x.1) q
found_in (d ∷ es) e s (inr m) =
    ap (λ b. cond b (Some d.1) (find bytes_cmp e.0 es))
    (same_turned e.0 d.0 ∙ same_not d.0 e.0 (below_in d.0 es e (first _ _ s) m))
    ∙ found_in es e (second (below_all bytes_cmp d.0 es) _ s) m

pub table_found : (tables : Tables) (t : NamedColumns) → In t (entries tables)
    → get tables t.0 ≡ Some t.1
table_found tables t m = get-entries tables t.0
    ∙ found_in (entries tables) t (entries_sorted tables) m

-- ---- the rows of a table

rows_fit : (columns : List Column) (x : Option DatabaseEntry) → IsEntry (Some columns) x
    → IsRelation columns (rows_under x)
rows_fit columns None i = absurd i
rows_fit columns (Some (Rows rows)) i = i
rows_fit columns (Some (Lost k l)) i = absurd i

pub relation_under : (tables : Tables) (db : Database) (t : NamedColumns) → IsDatabase tables db
    → In t (entries tables) → IsRelation t.1 (rows_under (get db t.0))
relation_under tables db t h m = rows_fit t.1 (get db t.0)
    (subst (λ o. IsEntry o (get db t.0)) (table_found tables t m) (h t.0))

-- ---- each change is of a row of a table that is there

module _ (tables : Tables) (schema : IsSchema tables) (narrow : AreNarrow tables)
    (old new : Database) (o : IsDatabase tables old) (n : IsDatabase tables new) where
  -- so what holds of each such change holds of all
  pub each_change : (P : PlainChange → Type 0)
      → ((t : NamedColumns) (row : Row) → In t (entries tables) → IsRow t.1 row
      → In row (rows_under (get old t.0)) → P (ending t row))
      → ((t : NamedColumns) (row : Row) → In t (entries tables) → IsRow t.1 row
      → In row (rows_under (get new t.0)) → P (beginning t row))
      → (c : PlainChange) → In c (changes_between (entries tables) old new) → P c
  each_change P end begin c m =
      let h = from_flat_map (λ (t : NamedColumns).
      table_changes t (rows_under (get old t.0)) (rows_under (get new t.0))) c (entries tables) m in
      let t : NamedColumns = h.0 in
      let was : Relation = rows_under (get old t.0) in
      let is : Relation = rows_under (get new t.0) in
      elim (in_append c (map (ending t) (gained_rows is was)) (map (beginning t)
      (gained_rows was is)) h.2) [
        | inl a ↦ (let k = from_map (ending t) c (gained_rows is was) a in
            let there = (from_gained is was k.0 k.1).0 in
            subst P k.2 (end t k.0 h.1 ((relation_under tables old t o h.1).fitting k.0 there)
            there))
        | inr b ↦ (let k = from_map (beginning t) c (gained_rows was is) b in
            let there = (from_gained was is k.0 k.1).0 in
            subst P k.2 (begin t k.0 h.1 ((relation_under tables new t n h.1).fitting k.0 there)
            there))
      ]

  fine : AllFine tables (changes_between (entries tables) old new)
  fine c m at = each_change (λ d. first_refusal (change_tests tables d at) ≡ None)
      (λ t row i r m. ending_accepted tables t (table_found tables t i)
      (schema t.0 t.1 (table_found tables t i)) row at r)
      (λ t row i r m. beginning_accepted tables t (table_found tables t i)
      (schema t.0 t.1 (table_found tables t i)) row at r) c m

  counted : (c : PlainChange) → In c (changes_between (entries tables) old new)
      → first_refusal (change_counts c) ≡ None
  counted c m = each_change (λ d. first_refusal (change_counts d) ≡ None)
      (λ t row i r m. row_counted (row_cells t.1 row)
      (let few = narrow t.0 t.1 (table_found tables t i) in
      let same = cells_count t.1 row r in omega (arith, few, same)))
      (λ t row i r m. refl) c m

  each_counted : (changes : List PlainChange)
      → ((c : PlainChange) → In c changes → first_refusal (change_counts c) ≡ None)
      → AllCounted changes
  each_counted [] h = tt
  each_counted (c ∷ changes) h = (h c (inl refl), each_counted changes (λ d m. h d (inr m)))

  pub between_accepted : first_refusal
      (changes_tests tables (changes_between (entries tables) old new) 0) ≡ None
  between_accepted = all_accepted tables (changes_between (entries tables) old new) 0 fine

  pub between_counted : length (changes_between (entries tables) old new) ≤ max_changes
      → first_excess (changing (changes_between (entries tables) old new)) ≡ None
  between_counted few = all_counted (changes_between (entries tables) old new)
      (each_counted (changes_between (entries tables) old new) counted) few
