-- What a list of tables stands for, and the databases of a schema.
use Rattle.std.proofs.Common.{◌≡◌, ◌<◌, ℕ, true, false, List, [], ◌∷◌, length, refl, sym, ap}
use Rattle.std.proofs.Common.{subst, ◌∙◌, get_or, set}
use Rattle.std.specs.Prelude.{T, cond, Option, Some, None, Ok, Err, slice_get}
use Rattle.std.specs.Option.{option_map}
use Rattle.std.specs.Ordering.{eq_by_cmp}
use Rattle.std.specs.List.{insert as insert_at}
use Rattle.std.specs.declared.cmp.Ordering.TheVariants.{Less, Equal, Greater}
use Rattle.std.specs.FinMap.{is_sorted, put, find, get, insert, empty, entries, from_sorted}
use Rattle.std.specs.FinMap.{same_entries_map, entries-from_sorted, entries-insert, get-from_sorted}
use Rattle.std.specs.FinMap.{get-empty, get-insert, same_map, len, len-entries, empty_of_len}
use Rattle.std.specs.FinMap.{slice_cmp-IsAntisymmetric, nat_cmp-IsAntisymmetric}
use Rattle.std.specs.FinMap.Entries.{by_order, is_sorted-put}
use Rattle.std.specs.Cmp.Lexicographic.{nat_list_cmp_total}
use Rattle.prima_base.specs.declared.value.Value.{Value}
use Rattle.prima_base.specs.Order.{bytes_cmp}
use Rattle.prima_base.specs.OrderLaws.{bytes_exact}
use Rattle.prima_base.specs.Columns.{Column, AreColumns, IsRelation}
use Rattle.std.proofs.lemmas.List.{get_or_default}
use Rattle.std.proofs.lemmas.Option.{slice_get-get_or, slice_get-map}
use Rattle.schema_catalog.specs.Tables.{Tables, IsSchema, name_at}
use Rattle.schema_catalog.specs.Places.{NamedColumns, EachAreColumns, AreTables, IsPlace}
use Rattle.schema_catalog.specs.Databases.{DatabaseEntry as DatabaseEntry, Rows, Database, IsEntry}
use Rattle.schema_catalog.specs.Databases.{IsDatabase}
use Rattle.schema_catalog.proofs.Placing.{put_at_gap, put_at_found, none_at_gap, found_at}

put_columns : (n : List ℕ) (v : List Column) (es : List NamedColumns) → EachAreColumns es
    → AreColumns v → EachAreColumns (put bytes_cmp n v es)
put_columns n v [] h c = (c, tt)
put_columns n v (e ∷ es) h c =
    elim (bytes_cmp n e.0) as (λ o. EachAreColumns
    (by_order o ((n, v) ∷ e ∷ es) ((e.0, v) ∷ es) (e ∷ put bytes_cmp n v es))) [
      | Less ↦ (c, h)
      | Equal ↦ (c, h.1)
      | Greater ↦ (h.0, put_columns n v es h.1 c)
    ]

pub put_tables : (n : List ℕ) (v : List Column) (es : List NamedColumns) → AreTables es
    → AreColumns v → AreTables (put bytes_cmp n v es)
put_tables n v es h c = record {
  sorted = is_sorted-put bytes_cmp nat_list_cmp_total n v es
      h.sorted;
  columns = put_columns n v es h.columns c;
}

pub put_is_insert : (n : List ℕ) (v : List Column) (es : List NamedColumns)
    → T (is_sorted bytes_cmp es)
    → ◌≡◌ {A = Tables} (from_sorted (put bytes_cmp n v es)) (insert (from_sorted es) n v)
put_is_insert n v es s =
    same_entries_map _ _ (
    entries-from_sorted bytes_cmp (put bytes_cmp n v es)
    (is_sorted-put bytes_cmp nat_list_cmp_total n v es s)
    ∙ sym (entries-insert nat_list_cmp_total (from_sorted es) n v
    ∙ ap (put bytes_cmp n v) (entries-from_sorted bytes_cmp es s)))

same_Some : {A : Type 0} (x y : A) → Some x ≡ Some y → x ≡ y
same_Some x y e = cc

find_columns : (es : List NamedColumns) (n : List ℕ) (c : List Column) → EachAreColumns es
    → find bytes_cmp n es ≡ Some c → AreColumns c
find_columns [] n c h e = absurd (cc)
find_columns (t ∷ es) n c h e =
    elim (eq_by_cmp bytes_cmp n t.0) as (λ b. cond b (Some t.1) (find bytes_cmp n es) ≡ Some c
    → AreColumns c) [
      | true ↦ λ q. subst AreColumns (same_Some t.1 c q) h.0
      | false ↦ λ q. find_columns es n c h.1 q
    ] e

pub is_schema : (es : List NamedColumns) → AreTables es → IsSchema (from_sorted es)
is_schema es h = λ n c e. find_columns es n c h.columns
    (sym (get-from_sorted bytes_cmp es n h.sorted) ∙ e)

nothing : (e : Option DatabaseEntry) → IsEntry None e → e ≡ None
nothing None h = refl
nothing (Some e) h = absurd h

no_tables : (q : List ℕ) → ◌≡◌ {A = Option (List Column)} (get (empty {R = bytes_cmp}) q) None
no_tables q = get-empty bytes_cmp q

no_entries : (q : List ℕ) → ◌≡◌ {A = Option DatabaseEntry} (get (empty {R = bytes_cmp}) q) None
no_entries q = get-empty bytes_cmp q

pub only_empty : (db : Database) → IsDatabase empty db → db ≡ empty
only_empty db h = same_map nat_list_cmp_total (slice_cmp-IsAntisymmetric nat_cmp-IsAntisymmetric) db
    empty
    (λ q. nothing (get db q) (subst (λ (t : Option (List Column)). IsEntry t (get db q))
    (no_tables q) (h q)) ∙ sym (no_entries q))

pub empty_is : (db : Database) → db ≡ empty → IsDatabase empty db
empty_is db e = λ q. subst (λ (t : Option (List Column)). IsEntry t (get db q)) (sym (no_tables q))
    (subst (λ (x : Option DatabaseEntry). IsEntry None x)
    (sym (ap (λ (d : Database). get d q) e ∙ no_entries q)) tt)

pub with_table : (tables : Tables) (db : Database) (n : List ℕ) (columns : List Column)
    (rows : List (List Value))
    → IsDatabase tables db → IsRelation columns rows
    → IsDatabase (insert tables n columns) (insert db n (Rows rows))
with_table tables db n columns rows h r = λ q.
    rw (
      get-insert nat_list_cmp_total tables n columns q,
      get-insert nat_list_cmp_total db n (Rows rows) q,
    )
    (elim (eq_by_cmp bytes_cmp q n) as (λ b. IsEntry (cond b (Some columns) (get tables q))
    (cond b (Some (Rows rows)) (get db q))) [
      | true ↦ r
      | false ↦ h q
    ])

-- a list of tables, and what it stands for
pub none_is_empty : (es : List NamedColumns) → es ≡ [] → ◌≡◌ {A = Tables} (from_sorted es) empty
none_is_empty es e = ap (λ (l : List NamedColumns). from_sorted {R = bytes_cmp} l) e
    ∙ empty_of_len (from_sorted {R = bytes_cmp} [])
    (len-entries (from_sorted {R = bytes_cmp} [])
    ∙ ap length (entries-from_sorted bytes_cmp [] tt))

pub count_is : (es : List NamedColumns) → T (is_sorted bytes_cmp es)
    → len (from_sorted {R = bytes_cmp} es) ≡ length es
count_is es s = len-entries (from_sorted {R = bytes_cmp} es)
    ∙ ap length (entries-from_sorted bytes_cmp es s)

-- the place of a table is one of the list
pub place_there : (es : List NamedColumns) (i : ℕ) → T (is_sorted bytes_cmp es)
    → i < len (from_sorted {R = bytes_cmp} es) → i < length es
place_there es i s h = subst (λ n. i < n) (count_is es s) h

pub table_at : (es : List NamedColumns) (i : ℕ) (t : NamedColumns) → T (is_sorted bytes_cmp es)
    → i < length es → t ≡ get_or es i t
    → slice_get (entries (from_sorted {R = bytes_cmp} es)) i ≡ Some t
table_at es i t s h e = rw (entries-from_sorted bytes_cmp es s)
    (slice_get-get_or es i t h ∙ ap Some (sym e))

pub table_found : (n : List ℕ) (es : List NamedColumns) (i : ℕ) (t : NamedColumns)
    → T (is_sorted bytes_cmp es) → IsPlace es n (Ok i) → t ≡ get_or es i t
    → (t.0 ≡ n) × (get (from_sorted {R = bytes_cmp} es) n ≡ Some t.1)
table_found n es i t s h e = (
  ap (λ (x : NamedColumns). x.0) e ∙ bytes_exact.same (get_or es i t).0 n (h.1 t),
  get-from_sorted bytes_cmp es n s ∙ found_at n es i t s h.0 h.1
      ∙ ap (λ (x : NamedColumns). Some x.1) (sym e),
)

-- the place has the name
pub name_found : (n : List ℕ) (es : List NamedColumns) (i : ℕ) → T (is_sorted bytes_cmp es)
    → IsPlace es n (Ok i) → name_at (from_sorted {R = bytes_cmp} es) i ≡ Some n
name_found n es i s h =
    let t = get_or es i (n, []) in
    slice_get-map (λ (e : NamedColumns). e.0) (entries (from_sorted {R = bytes_cmp} es)) i
    ∙ ap (λ (o : Option NamedColumns). option_map (λ (e : NamedColumns). e.0) o)
    (table_at es i t s h.0 (get_or_default es i (n, []) t h.0))
    ∙ ap Some (bytes_exact.same t.0 n (h.1 (n, [])))

pub table_not_found : (n : List ℕ) (es : List NamedColumns) (i : ℕ) → T (is_sorted bytes_cmp es)
    → IsPlace es n (Err i) → get (from_sorted {R = bytes_cmp} es) n ≡ None
table_not_found n es i s h = get-from_sorted bytes_cmp es n s ∙ none_at_gap n [] es i h.0 h.1 h.2

-- a table put where its name stands, or where it would
pub put_found : (t : NamedColumns) (es : List NamedColumns) (i : ℕ) → T (is_sorted bytes_cmp es)
    → IsPlace es t.0 (Ok i) → put bytes_cmp t.0 t.1 es ≡ set es i t
put_found t es i s h = put_at_found t.0 t.1 es i s h.0 h.1

pub put_not_found : (t : NamedColumns) (es : List NamedColumns) (i : ℕ) → IsPlace es t.0 (Err i)
    → put bytes_cmp t.0 t.1 es ≡ insert_at es i t
put_not_found t es i h = put_at_gap t.0 t.1 es i h.0 h.1 h.2
