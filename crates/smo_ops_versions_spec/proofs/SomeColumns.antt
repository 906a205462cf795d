-- Each table that operators make has a column.
use Rattle.std.proofs.Common.{◌≡◌, ◌+◌, ◌≤◌, ℕ, zero, suc, Bool, true, false, List, [], ◌∷◌, ◌++◌}
use Rattle.std.proofs.Common.{length, length-append, refl, sym, ap, subst, ◌∙◌, inl, inr, arith}
use Rattle.std.proofs.lemmas.List.{length-map}
use Rattle.std.specs.Prelude.{cond, not, ◌||◌, nat_le, is_some, if◌then◌else◌, Option, Some, None}
use Rattle.std.specs.List.{list_any}
use Rattle.std.specs.FinMap.{get, get-empty}
use Rattle.std.specs.declared.cmp.Ordering.{Ordering}
use Rattle.std.specs.declared.cmp.Ordering.TheVariants.{Less, Equal, Greater}
use Rattle.relations_spec.specs.Sets.{In, BeforeAll, placed, put_in, set_of}
use Rattle.relations_spec.proofs.SetLaws.{before_in, in_left, in_filter}
use Rattle.prima_base.specs.Order.{bytes_cmp}
use Rattle.prima_base.specs.OrderLaws.{bytes_exact, same_is}
use Rattle.prima_base.specs.declared.refusal.OpRefusal.TheVariants.{NoColumn, LastColumn, BadCover}
use Rattle.prima_base.specs.Columns.{Column, names_of, AreColumns}
use Rattle.schema_catalog.specs.Tables.{Tables, IsSchema}
use Rattle.smo_ops_types.specs.Operators.{Operator, nop, create_table, drop_table, rename_table}
use Rattle.smo_ops_types.specs.Operators.{copy_table, merge_table, partition_table, decompose_table}
use Rattle.smo_ops_types.specs.Operators.{join_table, add_column, drop_column, rename_column}
use Rattle.smo_ops_types.specs.Commands.{PlainVersion}
use Rattle.smo_ops_spec.specs.OneRow.{same}
use Rattle.smo_ops_spec.specs.Effects.{columns_of}
use Rattle.smo_ops_spec.specs.Preconditions.{among, first_not_among}
use Rattle.smo_ops_spec.specs.Making.{column_cmp, in_order, named, without}
use Rattle.smo_ops_spec.specs.OperatorTable.{line}
use Rattle.smo_ops_spec.specs.After.{op_fault, schema_after, IsValid}
use Rattle.smo_ops_spec.specs.Past.{no_tables, tables_from}
use Rattle.smo_ops_spec.specs.ValidPast.{AreVersions}
use Rattle.smo_ops_spec.proofs.Firsts.{met, none_mapped}
use Rattle.smo_ops_spec.proofs.NameLaws.{same_turned, in_among, among_in, none_missing}
use Rattle.smo_ops_spec.proofs.StepLaws.{AllMet}
use Rattle.smo_ops_spec.proofs.NextSchemas.{all_preconditions, is_table, EachMade, each_after}
use Rattle.smo_ops_spec.proofs.NextSchemas.{ordered_columns, next_is_valid}
use Rattle.smo_ops_spec.proofs.MetPreconditions.{create_met, decompose_met, drop_met}
use Rattle.smo_ops_spec.proofs.MadeRows.{column_named, both}
use Rattle.smo_ops_spec.proofs.TouchedTables.{neither}
use Rattle.smo_ops_spec.proofs.WholeTables.{found}
use Rattle.smo_ops_spec.specs.Evolutions.{schema_after_each, AllOperatorsAccepted}
use Rattle.smo_ops_spec.proofs.MemberLaws.{all_accepted, each_is_valid}
use Rattle.smo_ops_versions_spec.specs.TableColumns.{HaveColumns}

-- a list of columns that is not empty
abbrev HasColumn : List Column → Type 0
HasColumn columns = 1 ≤ length columns

put_some : (c : Column) (columns : List Column) → HasColumn (put_in column_cmp c columns)
put_some c [] = omega arith
put_some c (d ∷ columns) = step (column_cmp c d)
  where
    step : (o : Ordering) → HasColumn (placed o c d columns (put_in column_cmp c columns))
    step Less = omega arith
    step Equal = omega arith
    step Greater = omega arith

ordered_some : (columns : List Column) → HasColumn columns → HasColumn (in_order columns)
unfolding set_of
ordered_some [] h = absurd (omega (arith, h))
ordered_some (c ∷ columns) h = put_some c (in_order columns)

member_some : (c : Column) (columns : List Column) → In c columns → HasColumn columns
member_some c [] m = absurd m
member_some c (d ∷ columns) m = omega arith

-- the two parts of a table have a common column
any_member : {X : Type 0} (p : X → Bool) (xs : List X) → list_any p xs ≡ true → (x : X) × In x xs
    × (p x ≡ true)
any_member p [] e = absurd (cc)
any_member {X} p (x ∷ xs) e = step (any_member p xs) (p x) refl e
  where
    step : (list_any p xs ≡ true → (y : X) × In y xs × (p y ≡ true)) → (b : Bool) → p x ≡ b
        → (b || list_any p xs) ≡ true → (y : X) × In y (x ∷ xs) × (p y ≡ true)
    step more true q h = (x, inl refl, q)
    step more false q h = (let m = more h in (m.0, inr m.1, m.2))

part_some : (names : List (List ℕ)) (columns : List Column) (d : Column) → In d columns
    → among d.0 names ≡ true → HasColumn (named names columns)
part_some names columns d m e = member_some d (named names columns)
    (in_filter (λ (c : Column). among c.0 names) d columns m e)

-- without a column that is not there
pub none_left_out : (c : List ℕ) (columns : List Column) → among c (names_of columns) ≡ false
    → without c columns ≡ columns
none_left_out c [] e = refl
none_left_out c (d ∷ columns) e =
    let h = neither (same c d.0) (among c (names_of columns)) e in
    ap (λ b. cond (not b) (d ∷ without c columns) (without c columns)) (same_turned d.0 c ∙ h.0)
    ∙ ap (λ (ds : List Column). d ∷ ds) (none_left_out c columns h.1)

-- a name before all others is not among them
pub not_later : (c : List ℕ) (names : List (List ℕ)) → BeforeAll bytes_cmp c names
    → among c names ≡ false
not_later c names h = step (among c names) refl
  where
    step : (b : Bool) → among c names ≡ b → among c names ≡ false
    step true e = absurd (bytes_exact.apart c (before_in bytes_cmp c c names h
        (among_in c names e)))
    step false e = e

-- one column is left out
one_less : (c : List ℕ) (columns : List Column) → AreColumns columns
    → length columns ≤ length (without c columns) + 1
one_less c [] a = omega arith
one_less c (d ∷ columns) a = step (one_less c columns a.1) (same d.0 c) refl
  where
    step : length columns ≤ length (without c columns) + 1 → (b : Bool) → same d.0 c ≡ b
        → length (d ∷ columns)
        ≤ length (cond (not b) (d ∷ without c columns) (without c columns)) + 1
    step more true e =
        let n = ap length (none_left_out c columns (not_later c (names_of columns)
        (subst (λ (x : List ℕ). BeforeAll bytes_cmp x (names_of columns)) (same_is d.0 c e)
        a.0))) in
        omega (arith, n)
    step more false e = omega (arith, more)

module _ (tables : Tables) (schema : IsSchema tables) (have : HaveColumns tables) where
  there_some : (r : List ℕ) → is_some (get tables r) ≡ true → HasColumn (columns_of tables r)
  there_some r e = have r (columns_of tables r) (sym (found (get tables r) e))

  made_some : (op : Operator) → AllMet (line tables op).preconditions
      → EachMade HasColumn (line tables op).made
  made_some nop m = tt
  made_some (create_table r cs) m = (
    ordered_some cs (let l = met (nat_le 1 (length cs))
        (LastColumn r) (create_met m).some_column in grind (arith, l)),
    tt,
  )
  made_some (drop_table r) m = tt
  made_some (rename_table r t) m = (there_some r (is_table tables r m.0), tt)
  made_some (copy_table r t) m = (there_some r (is_table tables r m.0), tt)
  made_some (merge_table r s t) m = (there_some r (is_table tables r m.0), tt)
  made_some (partition_table r s c t) m =
      (there_some r (is_table tables r m.0), (there_some r (is_table tables r m.0), tt))
  made_some (decompose_table r s xs t ys) m =
      let k = decompose_met m in
      let b = both (list_any (λ x. among x ys) xs) _ (met _ (BadCover r) k.covered) in
      let x = any_member (λ x. among x ys) xs b.0 in
      let known = none_missing (xs ++ ys) (names_of (columns_of tables r)) x.0
      (none_mapped (NoColumn r) (first_not_among (names_of (columns_of tables r)) (xs ++ ys))
      k.columns_known) (in_left x.0 xs ys x.1) in
      let d = column_named (columns_of tables r) x.0 known in (
        part_some xs (columns_of tables r) d.0 d.1 (ap (λ (n : List ℕ). among n xs) d.2
            ∙ in_among x.0 xs x.1),
        (
          part_some ys (columns_of tables r) d.0 d.1 (ap (λ (n : List ℕ). among n ys) d.2 ∙ x.2),
          tt,
        ),
      )
  made_some (join_table r s t c) m =
      let k = there_some r (is_table tables r m.0) in (
        ordered_some (columns_of tables r ++ columns_of tables s)
            (let l = length-append (columns_of tables r) (columns_of tables s) in
            omega (arith, k, l)),
        tt,
      )
  made_some (add_column c e r) m = (put_some _ (columns_of tables r), tt)
  made_some (drop_column c r) m =
      let k = met (nat_le 2 (length (columns_of tables r))) (LastColumn r) (drop_met m).another in
      let l : 2 ≤ length (columns_of tables r) = grind (arith, k) in
      let n = one_less c (columns_of tables r) (ordered_columns tables r schema) in
      (omega (arith, l, n), tt)
  made_some (rename_column b r c) m =
      let k = there_some r (is_table tables r m.0) in
      let l = length-map (columns_of tables r)
      (λ (d : Column). if same d.0 b then (c, d.1) else d) in
      (ordered_some _ (omega (arith, k, l)), tt)

pub next_has_columns : (tables : Tables) (op : Operator) → IsSchema tables → HaveColumns tables
    → op_fault tables op ≡ None → HaveColumns (schema_after tables op)
next_has_columns tables op schema have e = each_after HasColumn tables (line tables op).made
    (line tables op).consumed have
    (made_some tables schema have op (all_preconditions tables op e))

-- ---- along the versions

pub no_tables_have : HaveColumns no_tables
no_tables_have n columns e =
    let none : get no_tables n ≡ None = get-empty bytes_cmp n in
    absurd (none_some (sym none ∙ e))
  where
    none_some : ◌≡◌ {A = Option (List Column)} None (Some columns) → ⊥
    none_some q = cc

-- operators one after the other
pub each_has_columns : (now : Tables) (ops : List Operator) → IsValid now → HaveColumns now
    → AllOperatorsAccepted now ops → HaveColumns (schema_after_each now ops)
each_has_columns now [] good have a = have
each_has_columns now (op ∷ ops) good have a =
    each_has_columns (schema_after now op) ops (next_is_valid now op good a.0)
    (next_has_columns now op good.schema have a.0) a.1

-- the tables of each version
pub columns_from : (last : Option ℕ) (before : Tables) (versions : List PlainVersion) (k : ℕ)
    → IsValid before → HaveColumns before → AreVersions last before versions
    → HaveColumns (tables_from before versions k)
columns_from last before [] k good have are = have
columns_from last before (v ∷ versions) zero good have are = have
columns_from last before (v ∷ versions) (suc k) good have are =
    let a = all_accepted before v.op are.0.accepted in
    columns_from (Some v.stamp) v.tables versions k
    (subst IsValid (sym are.0.tables) (each_is_valid before v.op good a))
    (subst HaveColumns (sym are.0.tables) (each_has_columns before v.op good have a)) are.1
