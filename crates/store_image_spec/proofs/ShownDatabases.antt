-- The database that an image shows at a moment has the tables of the version in force, with valid
-- values.
use Rattle.std.proofs.Common.{◌≡◌, ℕ, Bool, true, false, cond, List, [], ◌∷◌, length, map, refl}
use Rattle.std.proofs.Common.{sym, ap, subst, ◌∙◌, inl, inr, arith, nat_le, ◌&&◌}
use Rattle.std.specs.Prelude.{Option, Some, None}
use Rattle.std.specs.List.{filter}
use Rattle.std.specs.FinMap.{get, find, get-from_entries}
use Rattle.std.specs.Cmp.Lexicographic.{nat_list_cmp_total}
use Rattle.std.proofs.lemmas.Bool.Decides.{nat_tests}
use Rattle.relations_spec.specs.Sets.{In}
use Rattle.relations_spec.proofs.SetLaws.{in_map, from_map, from_filter}
use Rattle.prima_base.specs.Order.{bytes_cmp}
use Rattle.prima_base.specs.Columns.{Column}
use Rattle.prima_base.specs.OrderLaws.{same_is}
use Rattle.schema_catalog.specs.Tables.{Tables}
use Rattle.schema_catalog.specs.Databases.{DatabaseEntry, Rows, Lost, IsEntry, IsDatabase}
use Rattle.history_store_spec.specs.Store.{relation_at}
use Rattle.smo_ops_spec.specs.Effects.{rows_under}
use Rattle.smo_ops_spec.specs.ValidValues.{EntryHolds, HoldsValues}
use Rattle.smo_ops_spec.specs.OneRow.{same}
use Rattle.smo_ops_spec.specs.Past.{no_tables, tables_from, begun_at}
use Rattle.smo_ops_spec.proofs.NameLaws.{same_itself}
use Rattle.smo_ops_spec.proofs.PastMoments.{few_begun}
use Rattle.smo_ops_versions_spec.specs.Lifelines.{Lifeline, is_up_to, IsUpTo, Covers, AreApart}
use Rattle.smo_ops_versions_spec.specs.Lifelines.{HaveTables}
use Rattle.smo_ops_versions_spec.proofs.NamedEntries.{in_found}
use Rattle.smo_ops_versions_spec.proofs.VersionsCovered.{each_covered}
use Rattle.store_image_spec.specs.Images.{StoredLine, Image, IsImage, lines_in, store_of}
use Rattle.store_image_spec.specs.ShownPast.{is_of_version, table_at, image_database}
use Rattle.store_image_spec.proofs.ShownRelations.{shown_relation, shown_values}

-- ---- the lifelines of a version

up_to : (last : Option ℕ) (k : ℕ) → is_up_to last k ≡ true → IsUpTo last k
up_to None k e = tt
up_to (Some last) k e = grind (arith, nat_tests, e)

goes : (last : Option ℕ) (k : ℕ) → IsUpTo last k → is_up_to last k ≡ true
goes None k h = refl
goes (Some last) k h = grind (arith, nat_tests, h)

pub covered : (k : ℕ) (l : StoredLine) → is_of_version k l ≡ true
    → Covers l.line.first l.line.last k
covered k l e = step (nat_le l.line.first k) (is_up_to l.line.last k) refl refl e
  where
    step : (a b : Bool) → nat_le l.line.first k ≡ a → is_up_to l.line.last k ≡ b → (a && b) ≡ true
        → Covers l.line.first l.line.last k
    step true true p q h = (grind (arith, nat_tests, p), up_to l.line.last k q)
    step true false p q h = absurd (cc)
    step false b p q h = absurd (cc)

pub covers_it : (k : ℕ) (l : StoredLine) → Covers l.line.first l.line.last k
    → is_of_version k l ≡ true
covers_it k l h =
    let low = h.0 in
    let first : nat_le l.line.first k ≡ true = grind (arith, nat_tests, low) in
    rw (first, goes l.line.last k h.1) refl

abbrev Place : Type 0
Place = List ℕ × DatabaseEntry

module _ (k m : ℕ) where
  abbrev here : StoredLine → Bool
  here = is_of_version k

  -- each table is found under its name
  find_own : (lines : List StoredLine) → AreApart k (map (λ (l : StoredLine). l.line) lines)
      → (l : StoredLine) → In l lines → here l ≡ true
      → find bytes_cmp l.line.table (map (table_at m) (filter here lines)) ≡ Some (table_at m l).1
  find_own [] a l i e = absurd i
  find_own (x ∷ lines) a l (inl q) e =
      subst (λ (y : StoredLine). find bytes_cmp l.line.table
      (map (table_at m) (filter here (y ∷ lines))) ≡ Some (table_at m l).1) (sym q)
      (ap (λ b. find bytes_cmp l.line.table (map (table_at m)
      (cond b (l ∷ filter here lines) (filter here lines)))) e
      ∙ ap (λ b. cond b (Some (table_at m l).1)
      (find bytes_cmp l.line.table (map (table_at m) (filter here lines))))
      (same_itself l.line.table))
  find_own (x ∷ lines) a l (inr i) e = step (here x) refl (find_own lines a.1 l i e)
    where
      other : here x ≡ true → same l.line.table x.line.table ≡ false
      other p = apart (same l.line.table x.line.table) refl
        where
          apart : (b : Bool) → same l.line.table x.line.table ≡ b → b ≡ false
          apart true q = absurd (a.0 l.line (in_map (λ (y : StoredLine). y.line) l lines i)
              (sym (same_is l.line.table x.line.table q)) (covered k x p) (covered k l e))
          apart false q = refl

      step : (b : Bool) → here x ≡ b → find bytes_cmp l.line.table
          (map (table_at m) (filter here lines)) ≡ Some (table_at m l).1
          → find bytes_cmp l.line.table (map (table_at m)
          (cond b (x ∷ filter here lines) (filter here lines))) ≡ Some (table_at m l).1
      step true p rest = ap (λ b. cond b (Some (table_at m x).1)
          (find bytes_cmp l.line.table (map (table_at m) (filter here lines)))) (other p) ∙ rest
      step false p rest = rest

  -- and what is found is a table of a lifeline
  record IsFrom (lines : List StoredLine) (name : List ℕ) (entry : DatabaseEntry) : Type 0 where
    pub line : StoredLine
    pub among : In line lines
    pub of : Covers line.line.first line.line.last k
    pub named : line.line.table ≡ name
    pub is : (table_at m line).1 ≡ entry

  from_find : (lines : List StoredLine) (name : List ℕ) (entry : DatabaseEntry)
      → find bytes_cmp name (map (table_at m) (filter here lines)) ≡ Some entry
      → IsFrom lines name entry
  from_find lines name entry e =
      let x = from_map (table_at m) (name, entry) (filter here lines)
      (in_found (map (table_at m) (filter here lines)) name entry e) in
      let f = from_filter here x.0 lines x.1 in
      record {
        line = x.0;
        among = f.0;
        of = covered k x.0 f.1;
        named = ap (λ (y : Place). y.0) x.2;
        is = ap (λ (y : Place). y.1) x.2;
      }

-- ---- the tables of the version in force

abbrev pub in_force : Image → ℕ → ℕ
in_force image m = length (begun_at m image.versions)

abbrev pub image_tables : Image → ℕ → Tables
image_tables image m = tables_from no_tables image.versions (in_force image m)

module _ (image : Image) (is : IsImage image) where
  has_tables : (m : ℕ) → HaveTables (in_force image m) (image_tables image m) (lines_in image)
  has_tables m =
      subst (HaveTables (in_force image m) (image_tables image m)) (sym is.lines)
      (each_covered image.versions (in_force image m) is.evolved (few_begun m image.versions))

  -- what is kept over a lifeline of the version in force is what its table has
  pub own_entry : (m : ℕ) (l : StoredLine) → In l image.lines
      → Covers l.line.first l.line.last (in_force image m)
      → get (image_database image m) l.line.table ≡ Some (Rows (relation_at (store_of l) m))
  own_entry m l i c =
      get-from_entries nat_list_cmp_total (map (table_at m)
      (filter (is_of_version (in_force image m)) image.lines)) l.line.table
      ∙ find_own (in_force image m) m image.lines (has_tables m).once l i
      (covers_it (in_force image m) l c)

  entry_from : (m : ℕ) (name : List ℕ) (entry : DatabaseEntry)
      → get (image_database image m) name ≡ Some entry
      → IsFrom (in_force image m) m image.lines name entry
  entry_from m name entry e =
      from_find (in_force image m) m image.lines name entry
      (sym (get-from_entries nat_list_cmp_total
      (map (table_at m) (filter (is_of_version (in_force image m)) image.lines)) name) ∙ e)

  -- a table of the version in force has a lifeline
  line_under : (m : ℕ) (name : List ℕ) (columns : List Column)
      → get (image_tables image m) name ≡ Some columns
      → (l : StoredLine) × In l image.lines × Covers l.line.first l.line.last (in_force image m)
      × (l.line.table ≡ name)
  line_under m name columns e =
      let h = (has_tables m).each name columns e in
      let s = from_map (λ (l : StoredLine). l.line) h.0 image.lines h.1 in (
        s.0,
        s.1,
        subst (λ (x : Lifeline). Covers x.first x.last (in_force image m)) (sym s.2) h.2,
        ap (λ (x : Lifeline). x.table) s.2 ∙ h.3,
      )

  own_columns : (m : ℕ) (l : StoredLine) → In l image.lines
      → Covers l.line.first l.line.last (in_force image m)
      → get (image_tables image m) l.line.table ≡ Some l.line.columns
  own_columns m l i c = (has_tables m).has l.line
      (in_map (λ (x : StoredLine). x.line) l image.lines i) c

  is_entry : (m : ℕ) (name : List ℕ) (o : Option (List Column))
      → get (image_tables image m) name ≡ o → (x : Option DatabaseEntry)
      → get (image_database image m) name ≡ x → IsEntry o x
  is_entry m name None e None f = tt
  is_entry m name None e (Some x) f =
      let h = entry_from m name x f in
      let c = ap (get (image_tables image m)) (sym h.named) ∙ own_columns m h.line h.among h.of in
      absurd (cc)
  is_entry m name (Some columns) e x f =
      let l = line_under m name columns e in
      let own : Some l.0.line.columns ≡ Some columns = sym (own_columns m l.0 l.1 l.2)
      ∙ ap (get (image_tables image m)) l.3 ∙ e in
      let kept : Some (Rows (relation_at (store_of l.0) m)) ≡ x = sym (own_entry m l.0 l.1 l.2)
      ∙ ap (get (image_database image m)) l.3 ∙ f in
      subst (IsEntry (Some columns)) kept (subst
      (λ (o : Option (List Column)). IsEntry o (Some (Rows (relation_at (store_of l.0) m)))) own
      (shown_relation (store_of l.0) m (is.each l.0 l.1).store))

  pub is_database : (m : ℕ) → IsDatabase (image_tables image m) (image_database image m)
  is_database m = λ name. is_entry m name (get (image_tables image m) name) refl
      (get (image_database image m) name) refl

  holds_entry : (m : ℕ) (name : List ℕ) (x : Option DatabaseEntry)
      → get (image_database image m) name ≡ x → EntryHolds x
  holds_entry m name None f = tt
  holds_entry m name (Some (Lost k i)) f = tt
  holds_entry m name (Some (Rows rows)) f =
      let h = entry_from m name (Rows rows) f in
      let same : relation_at (store_of h.line) m ≡ rows =
      ap (λ (e : DatabaseEntry). rows_under (Some e)) h.is in
      λ row i v j. shown_values (store_of h.line) m (is.each h.line h.among).values row
      (subst (In row) (sym same) i) v j

  pub holds_values : (m : ℕ) → HoldsValues (image_database image m)
  holds_values m = λ name. holds_entry m name (get (image_database image m) name) refl
