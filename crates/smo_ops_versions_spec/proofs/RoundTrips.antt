-- RENAME TABLE and back, COPY TABLE and DROP TABLE, PARTITION TABLE and MERGE TABLE: what they
-- leave is what was before.
use Rattle.std.proofs.Common.{◌≡◌, ℕ, Bool, true, false, List, [], ◌∷◌, refl, sym, ap, subst, ◌∙◌}
use Rattle.std.specs.Prelude.{cond, not, ◌||◌, is_some, Option, Some, None}
use Rattle.std.specs.List.{filter}
use Rattle.std.specs.Option.{unwrap_or}
use Rattle.std.specs.FinMap.{FinMap, get, insert, remove, contains_key, get-insert, get-remove}
use Rattle.std.specs.FinMap.{same_map, slice_cmp-IsAntisymmetric, nat_cmp-IsAntisymmetric}
use Rattle.std.specs.Cmp.Lexicographic.{nat_list_cmp_total}
use Rattle.prima_base.specs.declared.refusal.OpRefusal.TheVariants.{Exists, SameTable, NoTable}
use Rattle.prima_base.specs.declared.refusal.OpRefusal.TheVariants.{ColumnsDiffer}
use Rattle.prima_base.specs.Order.{bytes_cmp}
use Rattle.prima_base.specs.Columns.{Column}
use Rattle.prima_base.specs.OrderLaws.{same_is}
use Rattle.schema_catalog.specs.Tables.{Tables}
use Rattle.schema_catalog.specs.Databases.{DatabaseEntry, Rows, Lost, Database}
use Rattle.cond_expr.specs.Trees.{Test}
use Rattle.smo_ops_types.specs.Operators.{rename_table, copy_table, drop_table, partition_table}
use Rattle.smo_ops_types.specs.Operators.{merge_table}
use Rattle.smo_ops_spec.specs.First.{unless}
use Rattle.smo_ops_spec.specs.OneRow.{Row, same, meets}
use Rattle.smo_ops_spec.specs.Effects.{columns_of}
use Rattle.smo_ops_spec.specs.Preconditions.{among, is_there, is_free, differ, alike}
use Rattle.smo_ops_spec.specs.Making.{union, from_one, from_two}
use Rattle.smo_ops_spec.specs.OperatorTable.{line}
use Rattle.smo_ops_spec.specs.Losses.{IsEntryOrLost, IsDatabaseWithLosses}
use Rattle.smo_ops_spec.specs.After.{op_fault, schema_after, migrate}
use Rattle.smo_ops_spec.specs.Inverses.{inverse_fault}
use Rattle.smo_ops_spec.proofs.Firsts.{met}
use Rattle.smo_ops_spec.proofs.NameLaws.{same_itself, same_turned}
use Rattle.smo_ops_spec.proofs.StepLaws.{all_met}
use Rattle.smo_ops_spec.proofs.NextSchemas.{all_preconditions, is_table}
use Rattle.smo_ops_spec.proofs.MetPreconditions.{RenameMet, rename_met, PartitionMet}
use Rattle.smo_ops_spec.proofs.MetPreconditions.{partition_met}
use Rattle.smo_ops_spec.proofs.TouchedTables.{opposite, free_name}
use Rattle.smo_ops_spec.proofs.MemberLaws.{accepted_all}
use Rattle.smo_ops_spec.proofs.InverseLaws.{alike_itself, accepted_so}
use Rattle.smo_ops_spec.proofs.WholeTables.{found, in_parts}

-- ---- maps by names

module _ {X : Type 0} where
  pub there : (m : FinMap bytes_cmp X) (n : List ℕ) (x : X) → get (insert m n x) n ≡ Some x
  there m n x = get-insert nat_list_cmp_total m n x n
      ∙ ap (λ b. cond b (Some x) (get m n)) (same_itself n)

  under_another : (m : FinMap bytes_cmp X) (n q : List ℕ) (x : X) → same q n ≡ false
      → get (insert m n x) q ≡ get m q
  under_another m n q x e = get-insert nat_list_cmp_total m n x q
      ∙ ap (λ b. cond b (Some x) (get m q)) e

  renamed_back : (m : FinMap bytes_cmp X) (r t : List ℕ) (x : X) → get m r ≡ Some x → get m t ≡ None
      → insert (remove (insert (remove m r) t x) t) r x ≡ m
  renamed_back m r t x is free = same_map nat_list_cmp_total
      (slice_cmp-IsAntisymmetric nat_cmp-IsAntisymmetric) _ _ (λ q.
      get-insert nat_list_cmp_total (remove (insert (remove m r) t x) t) r x q
      ∙ ap (λ (o : Option X). cond (same q r) (Some x) o)
      (get-remove nat_list_cmp_total (insert (remove m r) t x) t q
      ∙ ap (λ (o : Option X). cond (same q t) None o)
      (get-insert nat_list_cmp_total (remove m r) t x q
      ∙ ap (λ (o : Option X). cond (same q t) (Some x) o) (get-remove nat_list_cmp_total m r q)))
      ∙ step q (same q r) refl (same q t) refl)
    where
      step : (q : List ℕ) (b : Bool) → same q r ≡ b → (c : Bool) → same q t ≡ c
          → cond b (Some x) (cond c None (cond c (Some x) (cond b None (get m q)))) ≡ get m q
      step q true e c f = sym (ap (get m) (same_is q r e) ∙ is)
      step q false e true f = sym (ap (get m) (same_is q t f) ∙ free)
      step q false e false f = refl

  pub dropped_again : (m : FinMap bytes_cmp X) (t : List ℕ) (x : X) → get m t ≡ None
      → remove (insert m t x) t ≡ m
  dropped_again m t x free = same_map nat_list_cmp_total
      (slice_cmp-IsAntisymmetric nat_cmp-IsAntisymmetric) _ _ (λ q.
      get-remove nat_list_cmp_total (insert m t x) t q
      ∙ ap (λ (o : Option X). cond (same q t) None o) (get-insert nat_list_cmp_total m t x q)
      ∙ step q (same q t) refl)
    where
      step : (q : List ℕ) (c : Bool) → same q t ≡ c
          → cond c None (cond c (Some x) (get m q)) ≡ get m q
      step q true f = sym (ap (get m) (same_is q t f) ∙ free)
      step q false f = refl

  pub merged_back : (m : FinMap bytes_cmp X) (r s t : List ℕ) (x a b : X) → get m r ≡ Some x
      → (same s r ≡ false → get m s ≡ None) → (same t r ≡ false → get m t ≡ None)
      → insert (remove (remove (insert (insert (remove m r) s a) t b) s) t) r x ≡ m
  merged_back m r s t x a b is free also = same_map nat_list_cmp_total
      (slice_cmp-IsAntisymmetric nat_cmp-IsAntisymmetric) _ _ (λ q.
      get-insert nat_list_cmp_total (remove (remove (insert (insert (remove m r) s a) t b) s) t) r x
      q
      ∙ ap (λ (o : Option X). cond (same q r) (Some x) o)
      (get-remove nat_list_cmp_total (remove (insert (insert (remove m r) s a) t b) s) t q
      ∙ ap (λ (o : Option X). cond (same q t) None o)
      (get-remove nat_list_cmp_total (insert (insert (remove m r) s a) t b) s q
      ∙ ap (λ (o : Option X). cond (same q s) None o)
      (get-insert nat_list_cmp_total (insert (remove m r) s a) t b q
      ∙ ap (λ (o : Option X). cond (same q t) (Some b) o)
      (get-insert nat_list_cmp_total (remove m r) s a q
      ∙ ap (λ (o : Option X). cond (same q s) (Some a) o) (get-remove nat_list_cmp_total m r q)))))
      ∙ step q (same q r) refl (same q t) refl (same q s) refl)
    where
      step : (q : List ℕ) (c : Bool) → same q r ≡ c → (d : Bool) → same q t ≡ d → (e : Bool)
          → same q s ≡ e
          → cond c (Some x) (cond d None (cond e None
          (cond d (Some b) (cond e (Some a) (cond c None (get m q)))))) ≡ get m q
      step q true f d g e h = sym (ap (get m) (same_is q r f) ∙ is)
      step q false f true g e h = sym (ap (get m) (same_is q t g)
          ∙ also (ap (λ n. same n r) (sym (same_is q t g)) ∙ f))
      step q false f false g true h = sym (ap (get m) (same_is q s h)
          ∙ free (ap (λ n. same n r) (sym (same_is q s h)) ∙ f))
      step q false f false g false h = refl

-- ---- what stands under the names of an operator

absent : {X : Type 0} (o : Option X) → (is_some o ≡ true → ⊥) → o ≡ None
absent None h = refl
absent (Some x) h = absurd (h refl)

-- a name that may be made, and is no consumed one, is no table
free_table : (tables : Tables) (r t : List ℕ) → is_free tables (r ∷ []) t ≡ None → same t r ≡ false
    → get tables t ≡ None
free_table tables r t e d = absent (get tables t)
    (λ h. let k = free_name tables (r ∷ []) t e h in let n = ap (λ b. b || false) d in cc)

pub new_table : (tables : Tables) (t : List ℕ) → is_free tables [] t ≡ None → get tables t ≡ None
new_table tables t e = absent (get tables t) (λ h. let k = free_name tables [] t e h in cc)

no_entry : (o : Option (List Column)) (x : Option DatabaseEntry) → IsEntryOrLost o x → o ≡ None
    → x ≡ None
no_entry None None h e = refl
no_entry None (Some x) h e = absurd h
no_entry (Some cs) x h e = absurd (cc)

some_entry : (o : Option (List Column)) (x : Option DatabaseEntry) → IsEntryOrLost o x
    → is_some o ≡ true → (e : DatabaseEntry) × (x ≡ Some e)
some_entry None x h e = absurd (cc)
some_entry (Some cs) None h e = absurd h
some_entry (Some cs) (Some x) h e = (x, refl)

itself : (x : DatabaseEntry) → from_one (λ rows. rows) (Some x) ≡ x
itself (Rows rows) = refl
itself (Lost k i) = refl

pub is_there_now : (tables : Tables) (n : List ℕ) → contains_key tables n ≡ true
    → is_there tables n ≡ None
is_there_now tables n e = ap (λ b. unless b (NoTable n)) e

pub named_now : (tables : Tables) (n : List ℕ) (cs : List Column) → get tables n ≡ Some cs
    → is_there tables n ≡ None
named_now tables n cs e = is_there_now tables n (ap is_some e)

pub columns_now : (tables : Tables) (n : List ℕ) (cs : List Column) → get tables n ≡ Some cs
    → columns_of tables n ≡ cs
columns_now tables n cs e = ap (λ o. unwrap_or o []) e

turned : (r s : List ℕ) → differ r s ≡ None → differ s r ≡ None
turned r s e = ap (λ b. unless (not b) (SameTable s))
    (same_turned s r ∙ opposite (same r s) (met (not (same r s)) (SameTable r) e))

other : (r s : List ℕ) → differ r s ≡ None → same r s ≡ false
other r s e = opposite (same r s) (met (not (same r s)) (SameTable r) e)

-- ---- RENAME TABLE r INTO t, and RENAME TABLE t INTO r

module _ (tables : Tables) (r t : List ℕ) (e : op_fault tables (rename_table r t) ≡ None) where
  met_rename : RenameMet tables r t
  met_rename = rename_met (all_preconditions tables (rename_table r t) e)

  rename_is : contains_key tables r ≡ true
  rename_is = is_table tables r met_rename.there

  rename_free : get tables t ≡ None
  rename_free = free_table tables r t met_rename.name_free
      (same_turned t r ∙ other r t met_rename.apart)

  new_there : get (insert (remove tables r) t (columns_of tables r)) t ≡ Some (columns_of tables r)
  new_there = there (remove tables r) t (columns_of tables r)

  old_gone : get (insert (remove tables r) t (columns_of tables r)) r ≡ None
  old_gone =
      under_another (remove tables r) t r (columns_of tables r) (other r t met_rename.apart)
      ∙ get-remove nat_list_cmp_total tables r r
      ∙ ap (λ (b : Bool). cond b None (get tables r)) (same_itself r)

  pub back_accepted : op_fault (schema_after tables (rename_table r t)) (rename_table t r) ≡ None
  back_accepted = all_met (line (schema_after tables (rename_table r t))
      (rename_table t r)).preconditions (
        named_now (schema_after tables (rename_table r t)) t (columns_of tables r) new_there,
        (
          turned r t met_rename.apart,
          (
            ap (λ (o : Option (List Column)).
                unless (not (is_some o) || among r (t ∷ [])) (Exists r)) old_gone,
            tt,
          ),
        ),
      )

  pub back_schema : schema_after (schema_after tables (rename_table r t)) (rename_table t r)
      ≡ tables
  back_schema =
      ap (insert (remove (schema_after tables (rename_table r t)) t) r)
      (columns_now (schema_after tables (rename_table r t)) t (columns_of tables r) new_there)
      ∙ renamed_back tables r t (columns_of tables r) (sym (found (get tables r) rename_is))
      rename_free

  pub rename_inverse : inverse_fault tables (rename_table r t ∷ []) ((rename_table t r ∷ []) ∷ []) ≡ None
  rename_inverse = accepted_so tables (rename_table r t ∷ []) ((rename_table t r ∷ []) ∷ []) (
    accepted_all (schema_after tables (rename_table r t)) (rename_table t r ∷ [])
        (back_accepted, tt),
    tt,
  )
      back_schema

  pub rename_back : (db : Database) → IsDatabaseWithLosses tables db
      → migrate (schema_after tables (rename_table r t)) (rename_table t r)
      (migrate tables (rename_table r t) db) ≡ db
  rename_back db h =
      let x = some_entry (get tables r) (get db r) (h r) rename_is in
      let is : from_one (λ rows. rows) (get db r) ≡ x.0 = ap (from_one (λ rows. rows)) x.1
      ∙ itself x.0 in
      ap (λ (o : Option DatabaseEntry). insert (remove (migrate tables (rename_table r t) db) t) r
      (from_one (λ rows. rows) o)) (there (remove db r) t (from_one (λ rows. rows) (get db r)))
      ∙ ap (λ (y : DatabaseEntry). insert (remove (insert (remove db r) t y) t) r
      (from_one (λ rows. rows) (Some y))) is
      ∙ ap (insert (remove (insert (remove db r) t x.0) t) r) (itself x.0)
      ∙ renamed_back db r t x.0 x.1 (no_entry (get tables t) (get db t) (h t) rename_free)

-- ---- COPY TABLE r INTO t, and DROP TABLE t

module _ (tables : Tables) (r t : List ℕ) (e : op_fault tables (copy_table r t) ≡ None) where
  pub copy_free : get tables t ≡ None
  copy_free = new_table tables t (all_preconditions tables (copy_table r t) e).1.0

  pub copy_back_accepted : op_fault (schema_after tables (copy_table r t)) (drop_table t) ≡ None
  copy_back_accepted = all_met (line (schema_after tables (copy_table r t))
      (drop_table t)).preconditions (
        named_now (schema_after tables (copy_table r t)) t (columns_of tables r)
            (there tables t (columns_of tables r)),
        tt,
      )

  pub copy_back_schema : schema_after (schema_after tables (copy_table r t)) (drop_table t) ≡ tables
  copy_back_schema = dropped_again tables t (columns_of tables r) copy_free

  pub copy_inverse : inverse_fault tables (copy_table r t ∷ []) ((drop_table t ∷ []) ∷ []) ≡ None
  copy_inverse = accepted_so tables (copy_table r t ∷ []) ((drop_table t ∷ []) ∷ []) (
    accepted_all (schema_after tables (copy_table r t)) (drop_table t ∷ [])
        (copy_back_accepted, tt),
    tt,
  )
      copy_back_schema

  pub copy_back : (db : Database) → IsDatabaseWithLosses tables db
      → migrate (schema_after tables (copy_table r t)) (drop_table t)
      (migrate tables (copy_table r t) db) ≡ db
  copy_back db h = dropped_again db t (from_one (λ rows. rows) (get db r))
      (no_entry (get tables t) (get db t) (h t) copy_free)

-- ---- PARTITION TABLE r INTO s WITH c, t, and MERGE TABLE s, t INTO r

rejoined : (columns : List Column) (p : Row → Bool) (o : Option (List Column)) (x : DatabaseEntry)
    → IsEntryOrLost o (Some x)
    → from_two union (Some (from_one (filter p) (Some x)))
    (Some (from_one (filter (λ row. not (p row))) (Some x))) ≡ x
rejoined columns p None x h = absurd h
rejoined columns p (Some cs) (Rows rows) h = ap Rows (in_parts p cs rows h).whole
rejoined columns p (Some cs) (Lost k i) h = refl

module _ (tables : Tables) (r s t : List ℕ) (c : Test)
    (e : op_fault tables (partition_table r s c t) ≡ None) where
  abbrev its : List Column
  its = columns_of tables r

  abbrev parts : Tables
  parts = insert (insert (remove tables r) s its) t its

  met_partition : PartitionMet tables r s c t
  met_partition = partition_met c (all_preconditions tables (partition_table r s c t) e)

  part_is : contains_key tables r ≡ true
  part_is = is_table tables r met_partition.there

  part_differ : differ s t ≡ None
  part_differ = met_partition.apart

  first_free : same s r ≡ false → get tables s ≡ None
  first_free d = free_table tables r s met_partition.first_free d

  second_free : same t r ≡ false → get tables t ≡ None
  second_free d = free_table tables r t met_partition.second_free d

  module _ {X : Type 0} (m : FinMap bytes_cmp X) (a b : X) where
    second_part : get (insert (insert (remove m r) s a) t b) t ≡ Some b
    second_part = there (insert (remove m r) s a) t b

    first_part : get (insert (insert (remove m r) s a) t b) s ≡ Some a
    first_part = under_another (insert (remove m r) s a) t s b (other s t part_differ)
        ∙ there (remove m r) s a

    -- the old name is free, or one of the two parts has it
    whole_gone : same r s ≡ false → same r t ≡ false
        → get (insert (insert (remove m r) s a) t b) r ≡ None
    whole_gone d f =
        under_another (insert (remove m r) s a) t r b f ∙ under_another (remove m r) s r a d
        ∙ get-remove nat_list_cmp_total m r r
        ∙ ap (λ (q : Bool). cond q None (get m r)) (same_itself r)

  name_free : is_free parts (s ∷ t ∷ []) r ≡ None
  name_free = step (same r s) refl (same r t) refl
    where
      step : (b : Bool) → same r s ≡ b → (d : Bool) → same r t ≡ d
          → unless (not (contains_key parts r) || (b || (d || false))) (Exists r) ≡ None
      step true f d g = either (not (contains_key parts r))
        where
          either : (k : Bool) → unless (k || true) (Exists r) ≡ None
          either true = refl
          either false = refl
      step false f true g = either (not (contains_key parts r))
        where
          either : (k : Bool) → unless (k || true) (Exists r) ≡ None
          either true = refl
          either false = refl
      step false f false g = ap (λ (o : Option (List Column)).
          unless (not (is_some o) || false) (Exists r)) (whole_gone tables its its f g)

  alike_parts : alike s (columns_of parts s) t (columns_of parts t) ≡ None
  alike_parts =
      ap (λ (cs : List Column). alike s cs t (columns_of parts t))
      (columns_now parts s its (first_part tables its its))
      ∙ ap (λ (ds : List Column). alike s its t ds)
      (columns_now parts t its (second_part tables its its))
      ∙ ap (λ b. unless b (ColumnsDiffer s t)) (alike_itself its)

  pub merge_accepted : op_fault parts (merge_table s t r) ≡ None
  merge_accepted = all_met (line parts (merge_table s t r)).preconditions (
    named_now parts s its (first_part tables its its),
    (
      named_now parts t its (second_part tables its its),
      (part_differ, (name_free, (alike_parts, tt))),
    ),
  )

  pub merge_schema : schema_after parts (merge_table s t r) ≡ tables
  merge_schema =
      ap (insert (remove (remove parts s) t) r)
      (columns_now parts s its (first_part tables its its))
      ∙ merged_back tables r s t its its its (sym (found (get tables r) part_is)) first_free
      second_free

  pub partition_inverse : inverse_fault tables (partition_table r s c t ∷ []) ((merge_table s t r ∷ []) ∷ [])
      ≡ None
  partition_inverse = accepted_so tables (partition_table r s c t ∷ []) ((merge_table s t r ∷ []) ∷ [])
      (accepted_all parts (merge_table s t r ∷ []) (merge_accepted, tt), tt) merge_schema

  pub partition_back : (db : Database) → IsDatabaseWithLosses tables db
      → migrate (schema_after tables (partition_table r s c t)) (merge_table s t r)
      (migrate tables (partition_table r s c t) db) ≡ db
  partition_back db h =
      let x = some_entry (get tables r) (get db r) (h r) part_is in
      let p : Row → Bool = meets its c in
      let q : Row → Bool = λ row. not (meets its c row) in
      let D : Database = migrate tables (partition_table r s c t) db in
      ap (λ (o : Option DatabaseEntry). insert (remove (remove D s) t) r
      (from_two union o (get D t))) (first_part db (from_one (filter p) (get db r))
      (from_one (filter q) (get db r)))
      ∙ ap (λ (o : Option DatabaseEntry). insert (remove (remove D s) t) r
      (from_two union (Some (from_one (filter p) (get db r))) o))
      (second_part db (from_one (filter p) (get db r)) (from_one (filter q) (get db r)))
      ∙ ap (λ (o : Option DatabaseEntry). insert (remove (remove D s) t) r
      (from_two union (Some (from_one (filter p) o)) (Some (from_one (filter q) o)))) x.1
      ∙ ap (insert (remove (remove D s) t) r)
      (rejoined its p (get tables r) x.0 (subst (IsEntryOrLost (get tables r)) x.1 (h r)))
      ∙ merged_back db r s t x.0 (from_one (filter p) (get db r)) (from_one (filter q) (get db r))
      x.1
      (λ d. no_entry (get tables s) (get db s) (h s) (first_free d))
      (λ d. no_entry (get tables t) (get db t) (h t) (second_free d))
