-- A derived operator is accepted behind the operator that it is derived from, and leads back to the
-- schema before that one.
use Rattle.std.proofs.Common.{◌≡◌, ◌+◌, ◌≤◌, ℕ, Bool, true, false, List, [], ◌∷◌, length, refl, sym}
use Rattle.std.proofs.Common.{ap, subst, ◌∙◌, inl, inr, arith}
use Rattle.std.specs.Prelude.{cond, not, ◌||◌, if◌then◌else◌, Option, Some, None}
use Rattle.std.specs.Option.{option_map, unwrap_or}
use Rattle.std.specs.Ordering.{is_eq}
use Rattle.std.specs.declared.cmp.Ordering.{Ordering}
use Rattle.std.specs.declared.cmp.Ordering.TheVariants.{Less, Equal, Greater}
use Rattle.std.specs.FinMap.{FinMap, get, insert, remove, get-insert, get-remove}
use Rattle.std.specs.FinMap.{same_map, slice_cmp-IsAntisymmetric, nat_cmp-IsAntisymmetric}
use Rattle.std.specs.Cmp.Lexicographic.{nat_list_cmp_total}
use Rattle.relations_spec.specs.Sets.{In, BeforeAll, Ascends, placed, put_in}
use Rattle.relations_spec.proofs.SetLaws.{one_list_of, before_in}
use Rattle.prima_base.specs.declared.value.Value.{Value}
use Rattle.prima_base.specs.declared.value.ColType.{ColType}
use Rattle.prima_base.specs.declared.value.ColType.TheVariants.{Int as INT}
use Rattle.prima_base.specs.declared.refusal.OpRefusal.TheVariants.{NoColumn, ColumnExists}
use Rattle.prima_base.specs.declared.refusal.OpRefusal.TheVariants.{LastColumn, TooMany}
use Rattle.prima_base.specs.declared.refusal.What.TheVariants.{Columns as COLUMNS}
use Rattle.prima_base.specs.Limits.{max_columns}
use Rattle.prima_base.specs.Order.{bytes_cmp}
use Rattle.prima_base.specs.OrderLaws.{bytes_exact, same_is}
use Rattle.prima_base.specs.Columns.{Column, names_of, AreColumns}
use Rattle.schema_catalog.specs.Tables.{Tables, IsSchema}
use Rattle.cond_expr.specs.Trees.{Tree, constant}
use Rattle.cond_expr.specs.Kinds.{value_kind}
use Rattle.smo_ops_types.specs.Operators.{create_table, drop_table, add_column, drop_column}
use Rattle.smo_ops_types.specs.Operators.{rename_column}
use Rattle.smo_ops_spec.specs.First.{unless}
use Rattle.smo_ops_spec.specs.OneRow.{same}
use Rattle.smo_ops_spec.specs.Effects.{columns_of}
use Rattle.smo_ops_spec.specs.Preconditions.{among, type_in, is_new, each_known, another_column}
use Rattle.smo_ops_spec.specs.Preconditions.{few_columns, first_not_among}
use Rattle.smo_ops_spec.specs.Making.{column_cmp, in_order, without, renamed, with_column}
use Rattle.smo_ops_spec.specs.Making.{type_of_value}
use Rattle.smo_ops_spec.specs.OperatorTable.{line}
use Rattle.smo_ops_spec.specs.After.{op_fault, schema_after, IsValid}
use Rattle.smo_ops_spec.proofs.Firsts.{met, none_mapped}
use Rattle.smo_ops_spec.proofs.NameLaws.{same_itself, same_turned, in_among, among_in, in_names}
use Rattle.smo_ops_spec.proofs.NameLaws.{own_type, none_missing}
use Rattle.smo_ops_spec.proofs.StepLaws.{all_met}
use Rattle.smo_ops_spec.proofs.PastLaws.{at_least}
use Rattle.smo_ops_spec.proofs.ColumnLaws.{in_order_are_columns}
use Rattle.smo_ops_spec.proofs.NextSchemas.{all_preconditions, is_table, ordered_columns}
use Rattle.smo_ops_spec.proofs.NextSchemas.{next_is_valid}
use Rattle.smo_ops_spec.proofs.MetPreconditions.{add_met, drop_met, new_name_met, create_met}
use Rattle.smo_ops_spec.proofs.MadeRows.{column_named}
use Rattle.smo_ops_spec.proofs.MadeCells.{among_with}
use Rattle.smo_ops_spec.proofs.TouchedTables.{opposite, neither}
use Rattle.smo_ops_spec.proofs.WholeTables.{found}
use Rattle.smo_ops_spec.proofs.ColumnsByName.{no_type, renamed_types}
use Rattle.smo_ops_versions_spec.proofs.RoundTrips.{there, named_now, columns_now, new_table}
use Rattle.smo_ops_versions_spec.proofs.RoundTrips.{dropped_again}

-- ---- columns by their types

one_column : (c d : Column) → c.0 ≡ d.0 → c.1 ≡ d.1 → c ≡ d
one_column c d p q = ap (λ (n : List ℕ). (n, c.1)) p ∙ ap (λ (t : ColType). (d.0, t)) q

found_type : (columns : List Column) (n : List ℕ) (k : ColType) → type_in columns n ≡ Some k
    → In (n, k) columns
found_type [] n k e = absurd (cc)
found_type (c ∷ columns) n k e = step (found_type columns n k) (same c.0 n) refl e
  where
    of_some : Some c.1 ≡ Some k → c.1 ≡ k
    of_some q = cc

    step : (type_in columns n ≡ Some k → In (n, k) columns) → (b : Bool) → same c.0 n ≡ b
        → (if b then Some c.1 else type_in columns n) ≡ Some k → In (n, k) (c ∷ columns)
    step more true q h = inl (one_column c (n, k) (same_is c.0 n q) (of_some h))
    step more false q h = inr (more h)

below_columns : (c : Column) (columns : List Column) → BeforeAll bytes_cmp c.0 (names_of columns)
    → BeforeAll column_cmp c columns
below_columns c [] h = tt
below_columns c (d ∷ columns) h = (h.0, below_columns c columns h.1)

ascend : (columns : List Column) → AreColumns columns → Ascends column_cmp columns
ascend [] h = tt
ascend (c ∷ columns) h = (below_columns c columns h.0, ascend columns h.1)

-- columns with the same types under all names are the same
same_columns_of : (xs ys : List Column) → AreColumns xs → AreColumns ys
    → ((n : List ℕ) → type_in xs n ≡ type_in ys n) → xs ≡ ys
same_columns_of xs ys a b h = one_list_of column_cmp
    (λ x y z p q. bytes_exact.trans x.0 y.0 z.0 p q) (λ x p. bytes_exact.apart x.0 p) xs ys
    (ascend xs a) (ascend ys b) (record {
      there = λ z m. found_type ys z.0 z.1 (sym (h z.0) ∙ own_type xs z a m);
      back = λ z m. found_type xs z.0 z.1 (h z.0 ∙ own_type ys z b m);
    })

-- ---- one column more, and one less

-- what is not the column stays
pub none_left_out : (c : List ℕ) (columns : List Column) → among c (names_of columns) ≡ false
    → without c columns ≡ columns
none_left_out c [] e = refl
none_left_out c (d ∷ columns) e =
    let h = neither (same c d.0) (among c (names_of columns)) e in
    ap (λ b. cond (not b) (d ∷ without c columns) (without c columns)) (same_turned d.0 c ∙ h.0)
    ∙ ap (λ (ds : List Column). d ∷ ds) (none_left_out c columns h.1)

left_out : (c : List ℕ) (columns : List Column) → among c (names_of (without c columns)) ≡ false
left_out c [] = refl
left_out c (d ∷ columns) = step (left_out c columns) (same d.0 c) refl
  where
    step : among c (names_of (without c columns)) ≡ false → (b : Bool) → same d.0 c ≡ b
        → among c (names_of (cond (not b) (d ∷ without c columns) (without c columns))) ≡ false
    step more true e = more
    step more false e = ap (λ b. b || among c (names_of (without c columns)))
        (same_turned c d.0 ∙ e) ∙ more

without_with : (c : List ℕ) (k : ColType) (columns : List Column)
    → among c (names_of columns) ≡ false → without c (with_column c k columns) ≡ columns
without_with c k [] e = ap (λ b. cond (not b) ((c, k) ∷ []) []) (same_itself c)
without_with c k (d ∷ columns) e =
    step (without_with c k columns (neither (same c d.0) (among c (names_of columns)) e).1)
    (bytes_cmp c d.0) refl
  where
    apart : same d.0 c ≡ false
    apart = same_turned d.0 c ∙ (neither (same c d.0) (among c (names_of columns)) e).0

    step : without c (with_column c k columns) ≡ columns → (o : Ordering) → bytes_cmp c d.0 ≡ o
        → without c (placed o (c, k) d columns (put_in column_cmp (c, k) columns)) ≡ d ∷ columns
    step more Less q = ap (λ b. cond (not b) ((c, k) ∷ without c (d ∷ columns))
        (without c (d ∷ columns))) (same_itself c) ∙ none_left_out c (d ∷ columns) e
    step more Equal q = absurd (let s = (neither (same c d.0) (among c (names_of columns)) e).0 in
        let t = ap is_eq q in cc)
    step more Greater q =
        ap (λ b. cond (not b) (d ∷ without c (with_column c k columns))
        (without c (with_column c k columns))) apart
        ∙ ap (λ (ds : List Column). d ∷ ds) more

one_longer : (c : List ℕ) (k : ColType) (columns : List Column)
    → among c (names_of columns) ≡ false
    → length columns + 1 ≤ length (with_column c k columns)
one_longer c k [] e = omega arith
one_longer c k (d ∷ columns) e =
    step (one_longer c k columns (neither (same c d.0) (among c (names_of columns)) e).1)
    (bytes_cmp c d.0) refl
  where
    step : length columns + 1 ≤ length (with_column c k columns) → (o : Ordering)
        → bytes_cmp c d.0 ≡ o → length (d ∷ columns) + 1
        ≤ length (placed o (c, k) d columns (put_in column_cmp (c, k) columns))
    step more Less q = omega arith
    step more Equal q = absurd (let s = (neither (same c d.0) (among c (names_of columns)) e).0 in
        let t = ap is_eq q in cc)
    step more Greater q = omega (arith, more)

in_front : (c : List ℕ) (k : ColType) (columns : List Column)
    → BeforeAll bytes_cmp c (names_of columns) → with_column c k columns ≡ (c, k) ∷ columns
in_front c k [] h = refl
in_front c k (d ∷ columns) h =
    ap (λ o. placed o (c, k) d columns (put_in column_cmp (c, k) columns)) h.0

pub not_later : (c : List ℕ) (names : List (List ℕ)) → BeforeAll bytes_cmp c names
    → among c names ≡ false
not_later c names h = step (among c names) refl
  where
    step : (b : Bool) → among c names ≡ b → among c names ≡ false
    step true e = absurd (bytes_exact.apart c (before_in bytes_cmp c c names h
        (among_in c names e)))
    step false e = e

with_without : (c : List ℕ) (k : ColType) (columns : List Column) → AreColumns columns
    → type_in columns c ≡ Some k → with_column c k (without c columns) ≡ columns
with_without c k [] a e = absurd (cc)
with_without c k (d ∷ columns) a e = step (with_without c k columns a.1) (same d.0 c) refl e
  where
    of_some : Some d.1 ≡ Some k → d.1 ≡ k
    of_some q = cc

    front : d.0 ≡ c → BeforeAll bytes_cmp c (names_of columns)
    front q = subst (λ (n : List ℕ). BeforeAll bytes_cmp n (names_of columns)) q a.0

    behind : type_in columns c ≡ Some k → bytes_cmp d.0 c ≡ Less
    behind h = before_in bytes_cmp d.0 c (names_of columns) a.0
        (in_names columns (c, k) (found_type columns c k h))

    turned : (o : Ordering) → bytes_cmp c d.0 ≡ o → bytes_cmp d.0 c ≡ Less → same d.0 c ≡ false
        → o ≡ Greater
    turned Less q h n = absurd (bytes_exact.apart c (bytes_exact.trans c d.0 c q h))
    turned Equal q h n = absurd (let f = same_turned d.0 c ∙ ap is_eq q in cc)
    turned Greater q h n = refl

    step : (type_in columns c ≡ Some k → with_column c k (without c columns) ≡ columns)
        → (b : Bool) → same d.0 c ≡ b → (if b then Some d.1 else type_in columns c) ≡ Some k
        → with_column c k (cond (not b) (d ∷ without c columns) (without c columns))
        ≡ d ∷ columns
    step more true q h =
        let here : d.0 ≡ c = same_is d.0 c q in
        ap (with_column c k) (none_left_out c columns (not_later c (names_of columns) (front here)))
        ∙ in_front c k columns (front here)
        ∙ ap (λ (x : Column). x ∷ columns) (one_column (c, k) d (sym here) (sym (of_some h)))
    step more false q h =
        ap (λ o. placed o (c, k) d (without c columns)
        (put_in column_cmp (c, k) (without c columns)))
        (turned (bytes_cmp c d.0) refl (behind h) q)
        ∙ ap (λ (ds : List Column). d ∷ ds) (more h)

-- ---- one table that is put again

put_again : {X : Type 0} (m : FinMap bytes_cmp X) (r : List ℕ) (x y : X) → get m r ≡ Some x
    → insert (remove (insert (remove m r) r y) r) r x ≡ m
put_again {X} m r x y is = same_map nat_list_cmp_total
    (slice_cmp-IsAntisymmetric nat_cmp-IsAntisymmetric) _ _ (λ q.
    get-insert nat_list_cmp_total (remove (insert (remove m r) r y) r) r x q
    ∙ ap (λ (o : Option X). cond (same q r) (Some x) o)
    (get-remove nat_list_cmp_total (insert (remove m r) r y) r q
    ∙ ap (λ (o : Option X). cond (same q r) None o)
    (get-insert nat_list_cmp_total (remove m r) r y q
    ∙ ap (λ (o : Option X). cond (same q r) (Some y) o) (get-remove nat_list_cmp_total m r q)))
    ∙ step q (same q r) refl)
  where
    step : (q : List ℕ) (b : Bool) → same q r ≡ b
        → cond b (Some x) (cond b None (cond b (Some y) (cond b None (get m q)))) ≡ get m q
    step q true e = sym (ap (get m) (same_is q r e) ∙ is)
    step q false e = refl

-- ---- CREATE TABLE r, and DROP TABLE r

module _ (tables : Tables) (r : List ℕ) (cs : List Column)
    (e : op_fault tables (create_table r cs) ≡ None) where
  pub create_back_accepted : op_fault (schema_after tables (create_table r cs)) (drop_table r)
      ≡ None
  create_back_accepted =
      all_met (line (schema_after tables (create_table r cs)) (drop_table r)).preconditions (
        named_now (schema_after tables (create_table r cs)) r (in_order cs)
            (there tables r (in_order cs)),
        tt,
      )

  pub create_back_schema : schema_after (schema_after tables (create_table r cs)) (drop_table r)
      ≡ tables
  create_back_schema = dropped_again tables r (in_order cs)
      (new_table tables r (create_met (all_preconditions tables (create_table r cs) e)).name_free)

-- ---- ADD COLUMN c AS t INTO r, and DROP COLUMN c FROM r

module _ (tables : Tables) (c : List ℕ) (t : Tree) (r : List ℕ)
    (e : op_fault tables (add_column c t r) ≡ None) where
  abbrev its : List Column
  its = columns_of tables r

  abbrev kind : ColType
  kind = type_of_value its t

  abbrev longer : Tables
  longer = insert (remove tables r) r (with_column c kind its)

  unknown : among c (names_of its) ≡ false
  unknown = opposite (among c (names_of its)) (met (not (among c (names_of its)))
      (ColumnExists r c) (add_met t (all_preconditions tables (add_column c t r) e)).name_new)

  longer_there : get longer r ≡ Some (with_column c kind its)
  longer_there = there (remove tables r) r (with_column c kind its)

  longer_columns : columns_of longer r ≡ with_column c kind its
  longer_columns = columns_now longer r (with_column c kind its) longer_there

  pub add_back_accepted : 1 ≤ length (columns_of tables r)
      → op_fault (schema_after tables (add_column c t r)) (drop_column c r) ≡ None
  add_back_accepted some =
      let l : 2 ≤ length (with_column c kind its) = (let h = one_longer c kind its unknown in
      omega (arith, h, some)) in
      all_met (line longer (drop_column c r)).preconditions (
        named_now longer r (with_column c kind its) longer_there,
        (
          ap (λ (cs : List Column). each_known r cs (c ∷ [])) longer_columns
              ∙ ap (λ b. option_map (NoColumn r) (cond (not b) (Some c) None))
              (among_with c kind its c (inl refl)),
          (
            ap (λ (cs : List Column). another_column r cs) longer_columns
                ∙ ap (λ b. unless b (LastColumn r))
                (at_least 2 (length (with_column c kind its)) l),
            tt,
          ),
        ),
      )

  pub add_back_schema : schema_after (schema_after tables (add_column c t r)) (drop_column c r)
      ≡ tables
  add_back_schema =
      ap (λ (cs : List Column). insert (remove longer r) r (without c cs)) longer_columns
      ∙ ap (insert (remove longer r) r) (without_with c kind its unknown)
      ∙ put_again tables r its (with_column c kind its) (sym (found (get tables r)
      (is_table tables r (add_met t (all_preconditions tables (add_column c t r) e)).there)))

-- ---- DROP COLUMN c FROM r, and its filling

module _ (tables : Tables) (c r : List ℕ) (e : op_fault tables (drop_column c r) ≡ None) (v : Value)
    (kind : value_kind v ≡ unwrap_or (type_in (columns_of tables r) c) INT) where
  abbrev old : List Column
  old = columns_of tables r

  abbrev shorter : Tables
  shorter = insert (remove tables r) r (without c old)

  abbrev of_kind : ColType
  of_kind = unwrap_or (type_in old c) INT

  shorter_columns : columns_of shorter r ≡ without c old
  shorter_columns = columns_now shorter r (without c old)
      (there (remove tables r) r (without c old))

  is_known : IsSchema tables → type_in old c ≡ Some of_kind
  is_known schema =
      let m = none_missing (c ∷ []) (names_of old) c (none_mapped (NoColumn r)
      (first_not_among (names_of old) (c ∷ []))
      (drop_met (all_preconditions tables (drop_column c r) e)).columns_known) (inl refl) in
      of_column (column_named old c m)
    where
      of_column : (d : Column) × In d old × (d.0 ≡ c) → type_in old c ≡ Some of_kind
      of_column (d, m, q) =
          let h = sym (ap (type_in old) q) ∙ own_type old d (ordered_columns tables r schema) m in
          h ∙ ap (λ (o : Option ColType). Some (unwrap_or o INT)) (sym h)

  again : IsSchema tables → with_column c (value_kind v) (columns_of shorter r) ≡ old
  again schema = ap (λ (k : ColType). with_column c k (columns_of shorter r)) kind
      ∙ ap (with_column c of_kind) shorter_columns
      ∙ with_without c of_kind old (ordered_columns tables r schema) (is_known schema)

  pub fill_accepted : IsValid tables → op_fault (schema_after tables (drop_column c r))
      (add_column c (constant v) r) ≡ None
  fill_accepted good =
      all_met (line shorter (add_column c (constant v) r)).preconditions (
        named_now shorter r (without c old) (there (remove tables r) r (without c old)),
        (
          ap (λ (cs : List Column). is_new r cs c) shorter_columns
              ∙ ap (λ b. unless (not b) (ColumnExists r c)) (left_out c old),
          (
            refl,
            (
              refl,
              (
                ap few_columns (again good.schema)
                    ∙ ap (λ b. unless b (TooMany COLUMNS max_columns))
                    (at_least (length old) max_columns (narrow (get tables r) refl)),
                tt,
              ),
            ),
          ),
        ),
      )
    where
      narrow : (o : Option (List Column)) → get tables r ≡ o
          → length (unwrap_or o []) ≤ max_columns
      narrow None q = omega arith
      narrow (Some cs) q = good.narrow r cs q

  pub fill_schema : IsSchema tables → schema_after (schema_after tables (drop_column c r))
      (add_column c (constant v) r) ≡ tables
  fill_schema schema =
      ap (insert (remove shorter r) r) (again schema)
      ∙ put_again tables r old (without c old) (sym (found (get tables r)
      (is_table tables r (drop_met (all_preconditions tables (drop_column c r) e)).there)))

-- ---- RENAME COLUMN b IN r TO c, and back

known_type : (columns : List Column) (n : List ℕ) (k : ColType) → type_in columns n ≡ Some k
    → among n (names_of columns) ≡ true
known_type columns n k e = in_among n (names_of columns)
    (in_names columns (n, k) (found_type columns n k e))

unknown_type : (columns : List Column) (n : List ℕ) → AreColumns columns
    → type_in columns n ≡ None → among n (names_of columns) ≡ false
unknown_type columns n a e = step (among n (names_of columns)) refl
  where
    of_column : (d : Column) × In d columns × (d.0 ≡ n) → ⊥
    of_column (d, m, q) = (let h = sym (own_type columns d a m) ∙ ap (type_in columns) q ∙ e in cc)

    step : (b : Bool) → among n (names_of columns) ≡ b → among n (names_of columns) ≡ false
    step true q = absurd (of_column (column_named columns n (among_in n (names_of columns) q)))
    step false q = q

module _ (tables : Tables) (b r c : List ℕ) (e : op_fault tables (rename_column b r c) ≡ None)
    (good : IsValid tables) where
  schema : IsSchema tables
  schema = good.schema

  abbrev mine : List Column
  mine = columns_of tables r

  abbrev moved_to : Tables
  moved_to = insert (remove tables r) r (renamed b c mine)

  met_new : among c (names_of mine) ≡ false
  met_new = opposite (among c (names_of mine)) (met (not (among c (names_of mine)))
      (ColumnExists r c) (new_name_met (all_preconditions tables (rename_column b r c) e)).name_new)

  b_known : In b (names_of mine)
  b_known = none_missing (b ∷ []) (names_of mine) b (none_mapped (NoColumn r)
      (first_not_among (names_of mine) (b ∷ []))
      (new_name_met (all_preconditions tables (rename_column b r c) e)).columns_known) (inl refl)

  not_known : In c (names_of mine) → ⊥
  not_known m = true_false (sym (in_among c (names_of mine) m) ∙ met_new)
    where
      true_false : true ≡ false → ⊥
      true_false q = cc

  not_one : same b c ≡ false
  not_one = step (same b c) refl
    where
      step : (q : Bool) → same b c ≡ q → same b c ≡ false
      step true q = absurd (not_known (subst (λ (n : List ℕ). In n (names_of mine)) (same_is b c q)
          b_known))
      step false q = q

  moved_columns : columns_of moved_to r ≡ renamed b c mine
  moved_columns = columns_now moved_to r (renamed b c mine)
      (there (remove tables r) r (renamed b c mine))

  moved_types : (n : List ℕ) → type_in (columns_of moved_to r) n
      ≡ (if same n c then type_in mine b else if same n b then None else type_in mine n)
  moved_types n = renamed_types tables schema r b c n e

  moved_ordered : AreColumns (columns_of moved_to r)
  moved_ordered = subst AreColumns (sym moved_columns) (in_order_are_columns _)

  c_there : (d : Column) × In d mine × (d.0 ≡ b) → among c (names_of (columns_of moved_to r))
      ≡ true
  c_there (d, m, q) = known_type (columns_of moved_to r) c d.1
      (moved_types c ∙ ap (λ t. if t then type_in mine b else if same c b then None
      else type_in mine c) (same_itself c)
      ∙ sym (ap (type_in mine) q) ∙ own_type mine d (ordered_columns tables r schema) m)

  b_gone : among b (names_of (columns_of moved_to r)) ≡ false
  b_gone = unknown_type (columns_of moved_to r) b moved_ordered
      (moved_types b ∙ ap (λ t. if t then type_in mine b else if same b b then None
      else type_in mine b) not_one
      ∙ ap (λ (t : Bool). if t then None else type_in mine b) (same_itself b))

  pub rename_column_accepted : op_fault (schema_after tables (rename_column b r c))
      (rename_column c r b) ≡ None
  rename_column_accepted =
      all_met (line moved_to (rename_column c r b)).preconditions (
        named_now moved_to r (renamed b c mine) (there (remove tables r) r (renamed b c mine)),
        (
          ap (λ t. option_map (NoColumn r) (cond (not t) (Some c) None))
              (c_there (column_named mine b b_known)),
          (ap (λ t. unless (not t) (ColumnExists r b)) b_gone, tt),
        ),
      )

  moved_schema : IsSchema moved_to
  moved_schema = (next_is_valid tables (rename_column b r c) good e).schema

  abbrev again_to : Tables
  again_to = insert (remove moved_to r) r (renamed c b (columns_of moved_to r))

  again_types : (n : List ℕ) → type_in (renamed c b (columns_of moved_to r)) n ≡ type_in mine n
  again_types n =
      sym (ap (λ (cs : List Column). type_in cs n) (columns_now again_to r
      (renamed c b (columns_of moved_to r))
      (there (remove moved_to r) r (renamed c b (columns_of moved_to r)))))
      ∙ renamed_types moved_to moved_schema r c b n rename_column_accepted
      ∙ step (same n b) refl (same n c) refl
    where
      step : (p : Bool) → same n b ≡ p → (q : Bool) → same n c ≡ q
          → (if p then type_in (columns_of moved_to r) c else if q then None
          else type_in (columns_of moved_to r) n) ≡ type_in mine n
      step true p q f =
          moved_types c ∙ ap (λ t. if t then type_in mine b else if same c b then None
          else type_in mine c) (same_itself c) ∙ ap (type_in mine) (sym (same_is n b p))
      step false p true f = sym (ap (type_in mine) (same_is n c f) ∙ no_type mine c met_new)
      step false p false f = moved_types n ∙ ap (λ t. if t then type_in mine b
          else if same n b then None else type_in mine n) f
          ∙ ap (λ (t : Bool). if t then None else type_in mine n) p

  pub rename_column_schema : schema_after (schema_after tables (rename_column b r c))
      (rename_column c r b) ≡ tables
  rename_column_schema =
      ap (insert (remove moved_to r) r) (same_columns_of (renamed c b (columns_of moved_to r)) mine
      (in_order_are_columns _) (ordered_columns tables r schema) again_types)
      ∙ put_again tables r mine (renamed b c mine) (sym (found (get tables r)
      (is_table tables r (new_name_met (all_preconditions tables (rename_column b r c) e)).there)))
