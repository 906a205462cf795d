-- The next schema of a valid operator is valid.
use Rattle.std.proofs.Common.{◌≡◌, ◌≤◌, ◌+◌, ◌-◌, ℕ, Bool, true, false, List, [], ◌∷◌, length, map}
use Rattle.std.proofs.Common.{refl, sym, ap, subst, ◌∙◌, arith}
use Rattle.std.specs.Prelude.{cond, nat_le, Option, Some, None, ⊤, if◌then◌else◌}
use Rattle.std.specs.List.{filter}
use Rattle.std.specs.Option.{unwrap_or}
use Rattle.std.specs.Ordering.{eq_by_cmp}
use Rattle.std.specs.FinMap.{get, insert, remove, len, contains_key, get-insert, get-remove}
use Rattle.std.specs.FinMap.{len-insert, len-remove}
use Rattle.std.specs.Cmp.Lexicographic.{nat_list_cmp_total}
use Rattle.std.proofs.lemmas.List.{length-map}
use Rattle.relations_spec.specs.Sets.{Ascends, put_in, set_of}
use Rattle.relations_spec.proofs.SetLaws.{set_ascends, set_itself}
use Rattle.prima_base.specs.declared.refusal.What.TheVariants.{Tables as TABLES, Columns as COLUMNS}
use Rattle.prima_base.specs.declared.refusal.OpRefusal.TheVariants.{NoTable, TooMany}
use Rattle.prima_base.specs.Order.{bytes_cmp}
use Rattle.prima_base.specs.OrderLaws.{bytes_exact}
use Rattle.prima_base.specs.Columns.{Column, names_of, AreColumns}
use Rattle.prima_base.specs.Limits.{max_columns, max_tables}
use Rattle.schema_catalog.specs.Tables.{Tables, IsSchema}
use Rattle.smo_ops_types.specs.Operators.{Operator, nop, create_table, drop_table, rename_table}
use Rattle.smo_ops_types.specs.Operators.{copy_table, merge_table, partition_table, decompose_table}
use Rattle.smo_ops_types.specs.Operators.{join_table, add_column, drop_column, rename_column}
use Rattle.smo_ops_spec.specs.OneRow.{same}
use Rattle.smo_ops_spec.specs.Effects.{columns_of}
use Rattle.smo_ops_spec.specs.Preconditions.{is_there, few_columns, few_tables}
use Rattle.smo_ops_spec.specs.Making.{column_cmp, without, renamed, with_column, type_of_value}
use Rattle.smo_ops_spec.specs.Making.{joined_columns}
use Rattle.smo_ops_spec.specs.OperatorTable.{Made, line, without_all, with_all, tables_after}
use Rattle.smo_ops_spec.specs.After.{op_fault, schema_after, IsValid}
use Rattle.smo_ops_spec.proofs.Firsts.{met}
use Rattle.smo_ops_spec.proofs.ColumnLaws.{in_order_are_columns, in_order_length, names_put}
use Rattle.smo_ops_spec.proofs.KeptColumns.{kept_are_columns}
use Rattle.smo_ops_spec.proofs.StepLaws.{AllMet, each_met}
use Rattle.smo_ops_spec.proofs.MetPreconditions.{create_met, copy_met, partition_met, decompose_met}
use Rattle.smo_ops_spec.proofs.MetPreconditions.{join_met, add_met}

-- where no precondition fails, each is met
pub all_preconditions : (tables : Tables) (op : Operator) → op_fault tables op ≡ None
    → AllMet (line tables op).preconditions
all_preconditions tables op e = each_met (line tables op).preconditions e

at_most_is : (n limit : ℕ) → nat_le n limit ≡ true → n ≤ limit
at_most_is n limit e = grind (arith, e)

pub few_are : (columns : List Column) → few_columns columns ≡ None → length columns ≤ 32
few_are columns e = at_most_is (length columns) 32
    (met (nat_le (length columns) max_columns) (TooMany COLUMNS max_columns) e)

pub few_after : (tables : Tables) → few_tables tables ≡ None → len tables ≤ 64
few_after tables e = at_most_is (len tables) 64
    (met (nat_le (len tables) max_tables) (TooMany TABLES max_tables) e)

pub is_table : (tables : Tables) (r : List ℕ) → is_there tables r ≡ None
    → contains_key tables r ≡ true
is_table tables r e = met (contains_key tables r) (NoTable r) e

-- valid columns of a table
pub record AreValid (columns : List Column) : Type 0 where
  pub ordered : AreColumns columns
  pub few : length columns ≤ 32

-- what holds of each table's columns
abbrev pub Each : (List Column → Type 0) → Tables → Type 0
Each P tables = (n : List ℕ) (cs : List Column) → get tables n ≡ Some cs → P cs

abbrev pub EachMade : (List Column → Type 0) → List Made → Type 0
EachMade P [] = ⊤
EachMade P (m ∷ made) = P m.columns × EachMade P made

module _ (P : List Column → Type 0) where
  each_put : (tables : Tables) (r : List ℕ) (columns : List Column) → Each P tables → P columns
      → Each P (insert tables r columns)
  each_put tables r columns h p n cs e = step (eq_by_cmp bytes_cmp n r)
      (sym (get-insert nat_list_cmp_total tables r columns n) ∙ e)
    where
      one : Some columns ≡ Some cs → columns ≡ cs
      one q = cc

      step : (b : Bool) → cond b (Some columns) (get tables n) ≡ Some cs → P cs
      step true q = subst P (one q) p
      step false q = h n cs q

  each_left : (tables : Tables) (r : List ℕ) → Each P tables → Each P (remove tables r)
  each_left tables r h n cs e = step (eq_by_cmp bytes_cmp n r)
      (sym (get-remove nat_list_cmp_total tables r n) ∙ e)
    where
      step : (b : Bool) → cond b None (get tables n) ≡ Some cs → P cs
      step true q = absurd (cc)
      step false q = h n cs q

  each_without : (tables : Tables) (consumed : List (List ℕ)) → Each P tables
      → Each P (without_all consumed tables)
  each_without tables [] h = h
  each_without tables (n ∷ consumed) h = each_without (remove tables n) consumed
      (each_left tables n h)

  each_with : (tables : Tables) (made : List Made) → Each P tables → EachMade P made
      → Each P (with_all made tables)
  each_with tables [] h p = h
  each_with tables (m ∷ made) h p = each_with (insert tables m.name m.columns) made
      (each_put tables m.name m.columns h p.0) p.1

  pub each_after : (tables : Tables) (made : List Made) (consumed : List (List ℕ)) → Each P tables
      → EachMade P made → Each P (tables_after tables made consumed)
  each_after tables made consumed h p = each_with (without_all consumed tables) made
      (each_without tables consumed h) p

-- the number of tables
one_fewer : (tables : Tables) (r : List ℕ) → contains_key tables r ≡ true
    → len (remove tables r) ≤ len tables - 1
one_fewer tables r e = (let h = len-remove nat_list_cmp_total tables r
    ∙ ap (λ b. cond b (len tables - 1) (len tables)) e in omega arith)

no_more : (tables : Tables) (r : List ℕ) → len (remove tables r) ≤ len tables
no_more tables r = step (contains_key tables r) (len-remove nat_list_cmp_total tables r)
  where
    step : (b : Bool) → len (remove tables r) ≡ cond b (len tables - 1) (len tables)
        → len (remove tables r) ≤ len tables
    step true e = omega arith
    step false e = omega arith

one_more : (tables : Tables) (r : List ℕ) (columns : List Column)
    → len (insert tables r columns) ≤ len tables + 1
one_more tables r columns = step (contains_key tables r)
    (len-insert nat_list_cmp_total tables r columns)
  where
    step : (b : Bool) → len (insert tables r columns) ≡ cond b (len tables) (len tables + 1)
        → len (insert tables r columns) ≤ len tables + 1
    step true e = omega arith
    step false e = omega arith

one_for_one : (tables : Tables) (r t : List ℕ) (columns : List Column)
    → contains_key tables r ≡ true → len tables ≤ 64 → len (insert (remove tables r) t columns) ≤ 64
one_for_one tables r t columns e h = (let a = one_fewer tables r e in let b =
    one_more (remove tables r) t columns in omega arith)

one_for_two : (tables : Tables) (r s t : List ℕ) (columns : List Column)
    → contains_key tables r ≡ true → len tables ≤ 64
    → len (insert (remove (remove tables r) s) t columns) ≤ 64
one_for_two tables r s t columns e h =
    let a = one_fewer tables r e in
    let b = no_more (remove tables r) s in
    let c = one_more (remove (remove tables r) s) t columns in
    omega arith

-- the columns of made tables
found_valid : (tables : Tables) (r : List ℕ) → Each AreValid tables → AreValid (columns_of tables r)
found_valid tables r h = step (get tables r) refl
  where
    step : (o : Option (List Column)) → get tables r ≡ o → AreValid (unwrap_or o [])
    step None e = record { ordered = tt; few = omega arith }
    step (Some columns) e = h r columns e

-- the columns of a table are in order
pub ordered_columns : (tables : Tables) (r : List ℕ) → IsSchema tables
    → AreColumns (columns_of tables r)
ordered_columns tables r h = step (get tables r) refl
  where
    step : (o : Option (List Column)) → get tables r ≡ o → AreColumns (unwrap_or o [])
    step None e = tt
    step (Some columns) e = h r columns e

kept_length : (p : Column → Bool) (columns : List Column)
    → length (filter p columns) ≤ length columns
kept_length p [] = omega arith
kept_length p (c ∷ columns) =
    (let h = kept_length p columns in elim (p c) as (λ b.
    length (cond b (c ∷ filter p columns) (filter p columns)) ≤ length (c ∷ columns))
    [ true ↦ omega arith | false ↦ omega arith ])

kept_valid : (p : Column → Bool) (columns : List Column) → AreValid columns
    → AreValid (filter p columns)
kept_valid p columns h = record {
  ordered = kept_are_columns p columns h.ordered;
  few = (let a = kept_length p columns in let b = h.few in omega arith);
}

pub put_are_columns : (c : Column) (columns : List Column) → AreColumns columns
    → AreColumns (put_in column_cmp c columns)
unfolding set_of
put_are_columns c columns h =
    subst (Ascends bytes_cmp) (sym (names_put c columns
    ∙ ap (put_in bytes_cmp c.0) (sym (set_itself bytes_cmp bytes_exact (names_of columns) h))))
    (set_ascends bytes_cmp bytes_exact (c.0 ∷ names_of columns))

renamed_length : (b c : List ℕ) (columns : List Column)
    → length (renamed b c columns) ≤ length columns
renamed_length b c columns =
    let h = in_order_length (map (λ (d : Column). if same d.0 b then (c, d.1) else d) columns) in
    let k = length-map columns (λ (d : Column). if same d.0 b then (c, d.1) else d) in
    omega arith

-- each made table has valid columns
made_valid : (tables : Tables) (op : Operator) → Each AreValid tables
    → AllMet (line tables op).preconditions → EachMade AreValid (line tables op).made
made_valid tables nop h m = tt
made_valid tables (create_table r cs) h m = (
  record {
    ordered = in_order_are_columns cs;
    few =
        (let a = few_are cs (create_met m).columns_few in let b = in_order_length cs in
        omega arith);
  },
  tt,
)
made_valid tables (drop_table r) h m = tt
made_valid tables (rename_table r t) h m = (found_valid tables r h, tt)
made_valid tables (copy_table r t) h m = (found_valid tables r h, tt)
made_valid tables (merge_table r s t) h m = (found_valid tables r h, tt)
made_valid tables (partition_table r s c t) h m =
    (found_valid tables r h, (found_valid tables r h, tt))
made_valid tables (decompose_table r s xs t ys) h m = (
  kept_valid _ (columns_of tables r) (found_valid tables r h),
  (kept_valid _ (columns_of tables r) (found_valid tables r h), tt),
)
made_valid tables (join_table r s t c) h m = (
  record {
    ordered = in_order_are_columns _;
    few = few_are (joined_columns (columns_of tables r) (columns_of tables s))
        (join_met c m).columns_few;
  },
  tt,
)
made_valid tables (add_column c e r) h m = (
  record {
    ordered = put_are_columns (c, type_of_value (columns_of tables r) e) (columns_of tables r)
        (found_valid tables r h).ordered;
    few = few_are (with_column c (type_of_value (columns_of tables r) e) (columns_of tables r))
        (add_met e m).columns_few;
  },
  tt,
)
made_valid tables (drop_column c r) h m = (
  kept_valid _ (columns_of tables r)
      (found_valid tables r h),
  tt,
)
made_valid tables (rename_column b r c) h m = (
  record {
    ordered = in_order_are_columns _;
    few = (let a = renamed_length b c (columns_of tables r) in let k =
        (found_valid tables r h).few in omega arith);
  },
  tt,
)

-- there are few tables
few_made : (tables : Tables) (op : Operator) → len tables ≤ 64
    → AllMet (line tables op).preconditions → len (schema_after tables op) ≤ 64
few_made tables nop h m = h
few_made tables (create_table r cs) h m = few_after (schema_after tables (create_table r cs))
    (create_met m).tables_few
few_made tables (drop_table r) h m = (let a = no_more tables r in omega arith)
few_made tables (rename_table r t) h m = one_for_one tables r t (columns_of tables r)
    (is_table tables r m.0) h
few_made tables (copy_table r t) h m = few_after (schema_after tables (copy_table r t))
    (copy_met m).tables_few
few_made tables (merge_table r s t) h m = one_for_two tables r s t (columns_of tables r)
    (is_table tables r m.0) h
few_made tables (partition_table r s c t) h m =
    few_after (schema_after tables (partition_table r s c t)) (partition_met c m).tables_few
few_made tables (decompose_table r s xs t ys) h m =
    few_after (schema_after tables (decompose_table r s xs t ys)) (decompose_met m).tables_few
few_made tables (join_table r s t c) h m =
    one_for_two tables r s t (joined_columns (columns_of tables r) (columns_of tables s))
    (is_table tables r m.0) h
few_made tables (add_column c e r) h m = one_for_one tables r r
    (with_column c (type_of_value (columns_of tables r) e) (columns_of tables r))
    (is_table tables r m.0) h
few_made tables (drop_column c r) h m = one_for_one tables r r (without c (columns_of tables r))
    (is_table tables r m.0) h
few_made tables (rename_column b r c) h m = one_for_one tables r r
    (renamed b c (columns_of tables r)) (is_table tables r m.0) h

pub next_is_valid : (tables : Tables) (op : Operator) → IsValid tables → op_fault tables op ≡ None
    → IsValid (schema_after tables op)
next_is_valid tables op h e =
    let m = all_preconditions tables op e in
    let each = each_after AreValid tables (line tables op).made (line tables op).consumed
    (λ n cs q. record { ordered = h.schema n cs q; few = h.narrow n cs q })
    (made_valid tables op (λ n cs q. record { ordered = h.schema n cs q; few = h.narrow n cs q })
    m) in
    record {
      schema = λ n cs q. (each n cs q).ordered;
      narrow = λ n cs q. (each n cs q).few;
      few = few_made tables op h.few m;
    }
