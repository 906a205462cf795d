-- The rows of a table after RENAME, COPY, PARTITION and MERGE TABLE.
use Rattle.std.proofs.Common.{◌≡◌, ℕ, Bool, true, false, List, [], ◌∷◌, ◌++◌, refl, sym, ap, subst}
use Rattle.std.proofs.Common.{◌∙◌, inl, inr}
use Rattle.std.specs.Prelude.{cond, not, ◌||◌, ◌⊎◌, ◌↔◌, is_some, Option, Some, None}
use Rattle.std.specs.List.{filter}
use Rattle.std.specs.Option.{unwrap_or}
use Rattle.std.specs.Ordering.{eq_by_cmp}
use Rattle.std.specs.FinMap.{get, insert, remove, contains_key, get-remove, same_map}
use Rattle.std.specs.FinMap.{slice_cmp-IsAntisymmetric, nat_cmp-IsAntisymmetric}
use Rattle.std.specs.Cmp.Lexicographic.{nat_list_cmp_total}
use Rattle.relations_spec.specs.Sets.{In}
use Rattle.relations_spec.proofs.SetLaws.{in_left, in_right, in_append, in_filter, from_filter}
use Rattle.relations_spec.proofs.SetLaws.{in_set}
use Rattle.relations_spec.proofs.SetLaws.{from_set, set_ascends, set_same, one_list}
use Rattle.prima_base.specs.declared.refusal.OpRefusal.TheVariants.{Exists, SameTable}
use Rattle.prima_base.specs.declared.refusal.OpRefusal.TheVariants.{ColumnsDiffer}
use Rattle.prima_base.specs.Order.{bytes_cmp, row_cmp}
use Rattle.prima_base.specs.OrderLaws.{row_exact}
use Rattle.prima_base.specs.Columns.{Column, IsRelation}
use Rattle.schema_catalog.specs.Tables.{Tables}
use Rattle.schema_catalog.specs.Databases.{DatabaseEntry, Rows, Lost, Database, IsEntry, IsDatabase}
use Rattle.cond_expr.specs.Trees.{Test}
use Rattle.smo_ops_types.specs.Operators.{rename_table, copy_table, merge_table, partition_table}
use Rattle.smo_ops_spec.specs.First.{unless}
use Rattle.smo_ops_spec.specs.OneRow.{Row, Relation, same, meets}
use Rattle.smo_ops_spec.specs.Effects.{columns_of}
use Rattle.smo_ops_spec.specs.Preconditions.{among, same_columns, is_free, differ, alike}
use Rattle.smo_ops_spec.specs.Making.{union, from_one, from_two}
use Rattle.smo_ops_spec.specs.OperatorTable.{line, a_table}
use Rattle.smo_ops_spec.specs.After.{op_fault, schema_after, migrate}
use Rattle.smo_ops_spec.specs.Losses.{IsEntryOrLost, IsDatabaseWithLosses}
use Rattle.smo_ops_spec.specs.RowMeaning.{AreParts}
use Rattle.smo_ops_spec.proofs.Firsts.{met}
use Rattle.smo_ops_spec.proofs.NameLaws.{same_turned}
use Rattle.smo_ops_spec.proofs.StepLaws.{all_met}
use Rattle.smo_ops_spec.proofs.NextSchemas.{all_preconditions, is_table}
use Rattle.smo_ops_spec.proofs.MetPreconditions.{RenameMet, rename_met, CopyMet, copy_met}
use Rattle.smo_ops_spec.proofs.MetPreconditions.{MergeMet, merge_met}
use Rattle.smo_ops_spec.proofs.TouchedTables.{opposite, made_is_there, made_is_migrated}
use Rattle.smo_ops_spec.proofs.TouchedTables.{table_stays}
use Rattle.smo_ops_spec.proofs.TouchedTables.{entry_stays, one_of, free_name}
use Rattle.smo_ops_spec.proofs.MadeRows.{columns_same}

-- the columns of a table that is there, and its entry
pub found : (o : Option (List Column)) → is_some o ≡ true → Some (unwrap_or o []) ≡ o
found None e = absurd (cc)
found (Some columns) e = refl

kept : (o : Option (List Column)) (x : Option DatabaseEntry) → is_some o ≡ true → IsEntryOrLost o x
    → Some (from_one (λ rows. rows) x) ≡ x
kept None x e h = absurd (cc)
kept (Some columns) None e h = absurd h
kept (Some columns) (Some (Rows rows)) e h = refl
kept (Some columns) (Some (Lost k i)) e h = refl

module _ (tables : Tables) (r t : List ℕ) where
  module _ (e : op_fault tables (rename_table r t) ≡ None) where
    met_rename : RenameMet tables r t
    met_rename = rename_met (all_preconditions tables (rename_table r t) e)

    pub renamed_columns : get (schema_after tables (rename_table r t)) t ≡ get tables r
    renamed_columns =
        made_is_there tables (rename_table r t)
        (a_table t (columns_of tables r) (λ db. from_one (λ rows. rows) (get db r))) e
        (inl refl)
        ∙ found (get tables r) (is_table tables r met_rename.there)

    pub renamed_rows : (db : Database) → IsDatabaseWithLosses tables db
        → get (migrate tables (rename_table r t) db) t ≡ get db r
    renamed_rows db h =
        made_is_migrated tables (rename_table r t) db
        (a_table t (columns_of tables r) (λ db. from_one (λ rows. rows) (get db r))) e
        (inl refl)
        ∙ kept (get tables r) (get db r) (is_table tables r met_rename.there)
        (h r)

  module _ (e : op_fault tables (copy_table r t) ≡ None) where
    met_copy : CopyMet tables r t
    met_copy = copy_met (all_preconditions tables (copy_table r t) e)

    pub copied_columns : get (schema_after tables (copy_table r t)) t ≡ get tables r
    copied_columns =
        made_is_there tables (copy_table r t)
        (a_table t (columns_of tables r) (λ db. from_one (λ rows. rows) (get db r))) e
        (inl refl)
        ∙ found (get tables r) (is_table tables r met_copy.there)

    pub copied_rows : (db : Database) → IsDatabaseWithLosses tables db
        → get (migrate tables (copy_table r t) db) t ≡ get db r
    copied_rows db h =
        made_is_migrated tables (copy_table r t) db
        (a_table t (columns_of tables r) (λ db. from_one (λ rows. rows) (get db r))) e
        (inl refl)
        ∙ kept (get tables r) (get db r) (is_table tables r met_copy.there)
        (h r)

    other_name : among r (t ∷ []) ≡ false
    other_name = step (among r (t ∷ [])) refl
      where
        there : contains_key tables r ≡ true
        there = is_table tables r met_copy.there

        step : (b : Bool) → among r (t ∷ []) ≡ b → among r (t ∷ []) ≡ false
        step false q = q
        step true q =
            (let h = free_name tables [] t met_copy.name_free
            (ap (contains_key tables) (sym (one_of r t q)) ∙ there) in absurd (cc))

    pub original_columns : get (schema_after tables (copy_table r t)) r ≡ get tables r
    original_columns = table_stays tables (copy_table r t) r other_name refl

    pub original_rows : (db : Database) → get (migrate tables (copy_table r t) db) r ≡ get db r
    original_rows db = entry_stays tables (copy_table r t) r other_name db refl

-- one relation stands there
pub one_relation : (a b : Relation) → ◌≡◌ {A = Option DatabaseEntry} (Some (Rows a)) (Some (Rows b))
    → a ≡ b
one_relation a b e = cc

pub ascending : (o : Option (List Column)) (rows : Relation) → IsEntryOrLost o (Some (Rows rows))
    → (columns : List Column) × IsRelation columns rows
ascending None rows h = absurd h
ascending (Some columns) rows h = (columns, h)

-- a relation in two parts by a test
pub in_parts : (p : Row → Bool) (columns : List Column) (rows : Relation) → IsRelation columns rows
    → AreParts p rows (filter p rows) (filter (λ row. not (p row)) rows)
in_parts p columns rows r = record {
  met = λ row m. (from_filter p row rows m).1;
  unmet = λ row m. opposite (p row) (from_filter (λ x. not (p x)) row rows m).1;
  disjoint = λ row m n. never (p row) (from_filter p row rows m).1
      (from_filter (λ x. not (p x)) row rows n).1;
  whole = one_list row_cmp row_exact (union (filter p rows) (filter (λ x. not (p x)) rows)) rows
      (set_ascends row_cmp row_exact (filter p rows ++ filter (λ x. not (p x)) rows)) r.ascending
      (record {
        there = λ row m. elim (in_append row (filter p rows) (filter (λ x. not (p x)) rows)
            (from_set row_cmp row_exact row (filter p rows ++ filter (λ x. not (p x)) rows) m)) [
              | inl a ↦ (from_filter p row rows a).0
              | inr b ↦ (from_filter (λ x. not (p x)) row rows b).0
            ];
        back = λ row m. in_set row_cmp row_exact row (filter p rows ++ filter (λ x. not (p x)) rows)
            (either row m (p row) refl);
      });
}
  where
    never : (b : Bool) → b ≡ true → not b ≡ true → ⊥
    never true e h = absurd (cc)
    never false e h = absurd (cc)

    either : (row : Row) → In row rows → (b : Bool) → p row ≡ b
        → In row (filter p rows ++ filter (λ x. not (p x)) rows)
    either row m true q = in_left row (filter p rows) (filter (λ x. not (p x)) rows)
        (in_filter p row rows m q)
    either row m false q = in_right row (filter p rows) (filter (λ x. not (p x)) rows)
        (in_filter (λ x. not (p x)) row rows m (ap not q))

module _ (tables : Tables) (r s t : List ℕ) (c : Test) (db : Database) where
  pub partition_parts : (rows meeting others : Relation)
      → op_fault tables (partition_table r s c t) ≡ None → IsDatabaseWithLosses tables db
      → get db r ≡ Some (Rows rows) → get (migrate tables (partition_table r s c t) db) s
      ≡ Some (Rows meeting)
      → get (migrate tables (partition_table r s c t) db) t ≡ Some (Rows others)
      → AreParts (meets (columns_of tables r) c) rows meeting others
  partition_parts rows meeting others e h is first second =
      let columns : List Column = columns_of tables r in
      let a : List Row = filter (meets columns c) rows in
      let b : List Row = filter (λ row. not (meets columns c row)) rows in
      let y : a ≡ meeting = one_relation a meeting
      (ap (λ (x : Option DatabaseEntry). Some (from_one (filter (meets columns c)) x)) (sym is)
      ∙ sym (made_is_migrated tables (partition_table r s c t) db
      (a_table s columns (λ db. from_one (filter (meets columns c)) (get db r))) e (inl refl))
      ∙ first) in
      let n : b ≡ others = one_relation b others
      (ap (λ (x : Option DatabaseEntry). Some
      (from_one (filter (λ row. not (meets columns c row))) x)) (sym is)
      ∙ sym (made_is_migrated tables (partition_table r s c t) db
      (a_table t columns (λ db. from_one (filter (λ row. not (meets columns c row)))
      (get db r))) e (inr (inl refl))) ∙ second) in
      let one = ascending (get tables r) rows
      (subst (λ (x : Option DatabaseEntry). IsEntryOrLost (get tables r) x) is (h r)) in
      subst (λ (x : List Row). AreParts (meets columns c) rows x others) y
      (subst (λ (x : List Row). AreParts (meets columns c) rows a x) n
      (in_parts (meets columns c) one.0 rows one.1))

-- the union in either order
pub union_turned : (a b : Relation) → union a b ≡ union b a
union_turned a b = set_same row_cmp row_exact (a ++ b) (b ++ a) (record {
  there = λ row m. elim (in_append row a b m) [
    | inl x ↦ in_right row b a x
    | inr y ↦ in_left row b a y
  ];
  back = λ row m. elim (in_append row b a m) [
    | inl x ↦ in_right row a b x
    | inr y ↦ in_left row a b y
  ];
})

pub union_members : (a b : Relation) (row : Row) → In row (union a b) ↔ (In row a ⊎ In row b)
union_members a b row = (
  λ m. in_append row a b (from_set row_cmp row_exact row (a ++ b) m),
  λ m. in_set row_cmp row_exact row (a ++ b) (elim m [
    | inl x ↦ in_left row a b x
    | inr y ↦ in_right row a b y
  ]),
)

entries_turned : (o p : Option (List Column)) (x y : Option DatabaseEntry) → is_some o ≡ true
    → is_some p ≡ true → IsEntry o x → IsEntry p y → from_two union x y ≡ from_two union y x
entries_turned None p x y e f h g = absurd (cc)
entries_turned (Some cs) None x y e f h g = absurd (cc)
entries_turned (Some cs) (Some ds) None y e f h g = absurd h
entries_turned (Some cs) (Some ds) (Some (Lost k i)) y e f h g = absurd h
entries_turned (Some cs) (Some ds) (Some (Rows a)) None e f h g = absurd g
entries_turned (Some cs) (Some ds) (Some (Rows a)) (Some (Lost k i)) e f h g = absurd g
entries_turned (Some cs) (Some ds) (Some (Rows a)) (Some (Rows b)) e f h g =
    ap Rows (union_turned a b)

removed_turned : {X : Type 0} (a b : Bool) (o : Option X)
    → cond b None (cond a None o) ≡ cond a None (cond b None o)
removed_turned true true o = refl
removed_turned true false o = refl
removed_turned false true o = refl
removed_turned false false o = refl

tables_turned : (tables : Tables) (r s : List ℕ)
    → remove (remove tables r) s ≡ remove (remove tables s) r
tables_turned tables r s = same_map nat_list_cmp_total
    (slice_cmp-IsAntisymmetric nat_cmp-IsAntisymmetric) _ _
    (λ q. get-remove nat_list_cmp_total (remove tables r) s q
    ∙ ap (λ (g : Option (List Column)). cond (eq_by_cmp bytes_cmp q s) None g)
    (get-remove nat_list_cmp_total tables r q)
    ∙ removed_turned (eq_by_cmp bytes_cmp q r) (eq_by_cmp bytes_cmp q s) (get tables q)
    ∙ sym (get-remove nat_list_cmp_total (remove tables s) r q
    ∙ ap (λ (g : Option (List Column)). cond (eq_by_cmp bytes_cmp q r) None g)
    (get-remove nat_list_cmp_total tables s q)))

entries_removed_turned : (db : Database) (r s : List ℕ)
    → remove (remove db r) s ≡ remove (remove db s) r
entries_removed_turned db r s = same_map nat_list_cmp_total
    (slice_cmp-IsAntisymmetric nat_cmp-IsAntisymmetric) _ _
    (λ q. get-remove nat_list_cmp_total (remove db r) s q
    ∙ ap (λ (g : Option DatabaseEntry). cond (eq_by_cmp bytes_cmp q s) None g)
    (get-remove nat_list_cmp_total db r q)
    ∙ removed_turned (eq_by_cmp bytes_cmp q r) (eq_by_cmp bytes_cmp q s) (get db q)
    ∙ sym (get-remove nat_list_cmp_total (remove db s) r q
    ∙ ap (λ (g : Option DatabaseEntry). cond (eq_by_cmp bytes_cmp q r) None g)
    (get-remove nat_list_cmp_total db s q)))

module _ (tables : Tables) (r s t : List ℕ) (e : op_fault tables (merge_table r s t) ≡ None) where
  met_merge : MergeMet tables r s t
  met_merge = merge_met (all_preconditions tables (merge_table r s t) e)

  alike_columns : columns_of tables r ≡ columns_of tables s
  alike_columns = columns_same (columns_of tables r) (columns_of tables s)
      (met (same_columns (columns_of tables r) (columns_of tables s)) (ColumnsDiffer r s)
      met_merge.columns_alike)

  pub merged_turned : schema_after tables (merge_table r s t)
      ≡ schema_after tables (merge_table s r t)
  merged_turned =
      ap (λ (x : Tables). insert x t (columns_of tables r)) (tables_turned tables r s)
      ∙ ap (λ (cs : List Column). insert (remove (remove tables s) r) t cs) alike_columns

  pub merged_rows_turned : (db : Database) → IsDatabase tables db
      → migrate tables (merge_table r s t) db ≡ migrate tables (merge_table s r t) db
  merged_rows_turned db h =
      ap (λ (x : Database). insert x t (from_two union (get db r) (get db s)))
      (entries_removed_turned db r s)
      ∙ ap (λ (x : DatabaseEntry). insert (remove (remove db s) r) t x)
      (entries_turned (get tables r) (get tables s) (get db r) (get db s)
      (is_table tables r met_merge.left_there) (is_table tables s met_merge.right_there) (h r)
      (h s))

  pub merged_members : (db : Database) (first second made : Relation) (row : Row)
      → get db r ≡ Some (Rows first) → get db s ≡ Some (Rows second)
      → get (migrate tables (merge_table r s t) db) t ≡ Some (Rows made)
      → In row made ↔ (In row first ⊎ In row second)
  merged_members db first second made row is also now =
      subst (λ (x : Relation). In row x ↔ (In row first ⊎ In row second))
      (one_relation (union first second) made
      (ap (λ (x : Option DatabaseEntry). Some (from_two union x (Some (Rows second)))) (sym is)
      ∙ ap (λ (x : Option DatabaseEntry). Some (from_two union (get db r) x)) (sym also)
      ∙ sym (made_is_migrated tables (merge_table r s t) db
      (a_table t (columns_of tables r) (λ x. from_two union (get x r) (get x s))) e (inl refl))
      ∙ now))
      (union_members first second row)

  -- the operator with its tables in the other order is as good
  turned_differ : differ s r ≡ None
  turned_differ = ap (λ b. unless (not b) (SameTable s))
      (same_turned s r ∙ opposite (same r s) (met (not (same r s)) (SameTable r) met_merge.apart))

  turned_free : is_free tables (s ∷ r ∷ []) t ≡ None
  turned_free = ap (λ b. unless (not (contains_key tables t) || b) (Exists t))
      (swapped (same t s) (same t r)) ∙ met_merge.name_free
    where
      swapped : (a b : Bool) → (a || (b || false)) ≡ (b || (a || false))
      swapped true true = refl
      swapped true false = refl
      swapped false true = refl
      swapped false false = refl

  turned_alike : alike s (columns_of tables s) r (columns_of tables r) ≡ None
  turned_alike = ap (λ b. unless b (ColumnsDiffer s r))
      (ap (λ (cs : List Column). same_columns cs (columns_of tables r)) (sym alike_columns)
      ∙ ap (λ (cs : List Column). same_columns (columns_of tables r) cs) alike_columns
      ∙ met (same_columns (columns_of tables r) (columns_of tables s)) (ColumnsDiffer r s)
      met_merge.columns_alike)

  pub merge_turned : op_fault tables (merge_table s r t) ≡ None
  merge_turned =
      all_met (line tables (merge_table s r t)).preconditions (
        met_merge.right_there,
        (met_merge.left_there, (turned_differ, (turned_free, (turned_alike, tt)))),
      )
