-- Each table that operators make has a column.
use Rattle.std.proofs.Common.{◌≡◌, ℕ, ◌≤◌, Bool, true, false, cond, not, List, [], ◌∷◌, ◌++◌, map}
use Rattle.std.proofs.Common.{length, length-append, refl, sym, ap, ◌∙◌, arith, inl, inr, is_some}
use Rattle.std.specs.Prelude.{Option, Some, None, nat_le, ◌⊎◌, ◌&&◌, ◌||◌, if◌then◌else◌}
use Rattle.std.specs.Option.{unwrap_or}
use Rattle.std.specs.List.{find, list_any, list_all}
use Rattle.std.specs.FinMap.{get, get-empty}
use Rattle.std.specs.declared.cmp.Ordering.{Ordering}
use Rattle.std.specs.declared.cmp.Ordering.TheVariants.{Less, Equal, Greater}
use Rattle.std.proofs.lemmas.Bool.{leb-true}
use Rattle.std.proofs.lemmas.List.{length-map}
use Rattle.relations_spec.specs.Sets.{In, placed, put_in, set_of}
use Rattle.relations_spec.proofs.SetLaws.{in_filter, in_left, has_in, in_has}
use Rattle.prima_base.specs.declared.refusal.OpRefusal.TheVariants.{LastColumn, BadCover, NoColumn}
use Rattle.prima_base.specs.Order.{bytes_cmp}
use Rattle.prima_base.specs.OrderLaws.{bytes_exact, same_is}
use Rattle.prima_base.specs.Columns.{Column, names_of, AreColumns}
use Rattle.schema_catalog.specs.Tables.{Tables}
use Rattle.smo_ops_types.specs.Operators.{Operator, nop, create_table, drop_table, rename_table}
use Rattle.smo_ops_types.specs.Operators.{copy_table, merge_table, partition_table, decompose_table}
use Rattle.smo_ops_types.specs.Operators.{join_table, add_column, drop_column, rename_column}
use Rattle.smo_ops_spec.specs.OneRow.{same}
use Rattle.smo_ops_spec.specs.Effects.{columns_of}
use Rattle.smo_ops_spec.specs.Past.{no_tables}
use Rattle.smo_ops_spec.specs.Preconditions.{among, first_not_among, is_there}
use Rattle.smo_ops_spec.specs.Making.{column_cmp, in_order, named, without, type_of_value}
use Rattle.smo_ops_spec.specs.OperatorTable.{line}
use Rattle.smo_ops_spec.specs.After.{op_fault, schema_after, IsValid}
use Rattle.smo_ops_spec.specs.Evolutions.{schema_after_each, AllOperatorsAccepted}
use Rattle.smo_ops_spec.proofs.Firsts.{met, none_mapped}
use Rattle.smo_ops_spec.proofs.NameLaws.{same_not, same_turned}
use Rattle.smo_ops_spec.proofs.StepLaws.{AllMet}
use Rattle.smo_ops_spec.proofs.NextSchemas.{all_preconditions, is_table, Each, EachMade, each_after}
use Rattle.smo_ops_spec.proofs.NextSchemas.{ordered_columns, next_is_valid}
use Rattle.smo_ops_spec.proofs.MetPreconditions.{create_met, decompose_met, drop_met}
use Rattle.command_codec_spec.proofs.Correctness.{by_test, true_false}
use Rattle.command_codec_spec.proofs.Numbers.{of_both}
use Rattle.store_image_spec.proofs.Checking.{either}

abbrev pub HasColumn : List Column → Type 0
HasColumn columns = 1 ≤ length columns

pub no_table_has_none : Each HasColumn no_tables
no_table_has_none n cs e = absurd (let none : ◌≡◌ {A = Option (List Column)} None (Some cs) =
    sym (get-empty bytes_cmp n) ∙ e in cc)

not_empty : {X : Type 0} (x : X) (xs : List X) → In x xs → 1 ≤ length xs
not_empty x [] i = absurd i
not_empty x (y ∷ xs) i = omega arith

some_put : (c : Column) (columns : List Column) → HasColumn (put_in column_cmp c columns)
some_put c [] = omega arith
some_put c (d ∷ columns) = step (column_cmp c d)
  where
    step : (o : Ordering) → HasColumn (placed o c d columns (put_in column_cmp c columns))
    step Less = omega arith
    step Equal = omega arith
    step Greater = omega arith

some_in_order : (columns : List Column) → HasColumn columns → HasColumn (in_order columns)
unfolding set_of
some_in_order [] h = h
some_in_order (c ∷ columns) h = some_put c (set_of column_cmp columns)

module _ (tables : Tables) (h : Each HasColumn tables) where
  found : (r : List ℕ) → is_there tables r ≡ None → HasColumn (columns_of tables r)
  found r e = step (get tables r) refl (is_table tables r e)
    where
      step : (o : Option (List Column)) → get tables r ≡ o → is_some o ≡ true
          → HasColumn (unwrap_or o [])
      step None q t = true_false (sym t)
      step (Some columns) q t = h r columns q

-- the columns of some of their names
any_in : {X : Type 0} (p : X → Bool) (xs : List X) → list_any p xs ≡ true → (x : X) × In x xs
    × (p x ≡ true)
any_in p [] e = true_false (sym e)
any_in {X} p (x ∷ xs) e = step (either (p x) (list_any p xs) e) (any_in p xs)
  where
    step : (p x ≡ true) ⊎ (list_any p xs ≡ true)
        → (list_any p xs ≡ true → (y : X) × In y xs × (p y ≡ true)) → (y : X) × In y (x ∷ xs)
        × (p y ≡ true)
    step (inl q) f = (x, inl refl, q)
    step (inr q) f = let r = f q in (r.0, inr r.1, r.2)

each_among : (others names : List (List ℕ)) → first_not_among others names ≡ None → (n : List ℕ)
    → In n names → among n others ≡ true
each_among others [] e n i = absurd i
each_among others (m ∷ names) e n (inl q) = by_test (among m others)
    (λ t. ap (λ k. among k others) (sym q) ∙ t)
    (λ f. absurd (let z : Some m ≡ None = sym
    (ap (λ b. cond (not b) (Some m) (find (λ k. not (among k others)) names)) f) ∙ e in cc))
each_among others (m ∷ names) e n (inr i) = by_test (among m others)
    (λ t. each_among others names (sym (ap (λ b.
    cond (not b) (Some m) (find (λ k. not (among k others)) names)) t) ∙ e) n i)
    (λ f. absurd (let z : Some m ≡ None = sym
    (ap (λ b. cond (not b) (Some m) (find (λ k. not (among k others)) names)) f) ∙ e in cc))

named_column : (columns : List Column) (n : List ℕ) → In n (names_of columns) → (c : Column)
    × In c columns × (c.0 ≡ n)
named_column [] n i = absurd i
named_column (c ∷ columns) n (inl q) = (c, inl refl, q)
named_column (c ∷ columns) n (inr i) = let r = named_column columns n i in (r.0, inr r.1, r.2)

some_named : (columns : List Column) (names : List (List ℕ)) (n : List ℕ) → In n names
    → among n (names_of columns) ≡ true → HasColumn (named names columns)
some_named columns names n i e =
    let c = named_column columns n (has_in bytes_cmp bytes_exact n (names_of columns) e) in
    not_empty c.0 (named names columns) (in_filter (λ (d : Column). among d.0 names) c.0 columns c.1
    (ap (λ k. among k names) c.2 ∙ in_has bytes_cmp bytes_exact n names i))

-- of two columns one is left
one_left : (name : List ℕ) (columns : List Column) → AreColumns columns → 2 ≤ length columns
    → HasColumn (without name columns)
one_left name [] a l = absurd (omega (arith, l))
one_left name (c ∷ []) a l = absurd (omega (arith, l))
one_left name (c ∷ (d ∷ columns)) a l = by_test (same c.0 name)
    (λ t. (let is = same_is c.0 name t in
    let other : same d.0 name ≡ false = ap (λ k. same d.0 k) (sym is) ∙ same_turned d.0 c.0
    ∙ same_not c.0 d.0 a.0.0 in
    not_empty d (without name (c ∷ (d ∷ columns)))
    (in_filter (λ (e : Column). not (same e.0 name)) d (c ∷ (d ∷ columns)) (inr (inl refl))
    (ap not other))))
    (λ f. not_empty c (without name (c ∷ (d ∷ columns)))
    (in_filter (λ (e : Column). not (same e.0 name)) c (c ∷ (d ∷ columns)) (inl refl)
    (ap not f)))

made_some : (tables : Tables) (op : Operator) → IsValid tables → Each HasColumn tables
    → AllMet (line tables op).preconditions → EachMade HasColumn (line tables op).made
made_some tables nop l h m = tt
made_some tables (create_table r cs) l h m = (
  some_in_order cs
      (leb-true 1 (length cs) (met (nat_le 1 (length cs)) (LastColumn r)
      (create_met m).some_column)),
  tt,
)
made_some tables (drop_table r) l h m = tt
made_some tables (rename_table r t) l h m = (found tables h r m.0, tt)
made_some tables (copy_table r t) l h m = (found tables h r m.0, tt)
made_some tables (merge_table r s t) l h m = (found tables h r m.0, tt)
made_some tables (partition_table r s c t) l h m =
    (found tables h r m.0, (found tables h r m.0, tt))
made_some tables (decompose_table r s xs t ys) l h m =
    let columns : List Column = columns_of tables r in
    let known = each_among (names_of columns) (xs ++ ys)
    (none_mapped (NoColumn r) (first_not_among (names_of columns) (xs ++ ys))
    (decompose_met m).columns_known) in
    let common = any_in (λ x. among x ys) xs
    (of_both (list_any (λ x. among x ys) xs) (list_all (λ n. among n xs || among n ys)
    (names_of columns))
    (met (list_any (λ x. among x ys) xs && list_all (λ n. among n xs || among n ys)
    (names_of columns)) (BadCover r) (decompose_met m).covered)).0 in
    let there = known common.0 (in_left common.0 xs ys common.1) in (
      some_named columns xs common.0 common.1 there,
      (
        some_named columns ys common.0 (has_in bytes_cmp bytes_exact common.0 ys common.2) there,
        tt,
      ),
    )
made_some tables (join_table r s t c) l h m =
    let cs : List Column = columns_of tables r in
    let ds : List Column = columns_of tables s in (
      some_in_order (cs ++ ds) (let a = found tables h r m.0 in let n = length-append cs ds in
          omega (arith, a, n)),
      tt,
    )
made_some tables (add_column c e r) l h m = (
  some_put (c, type_of_value (columns_of tables r) e)
      (columns_of tables r),
  tt,
)
made_some tables (drop_column c r) l h m =
    let columns : List Column = columns_of tables r in (
      one_left c columns (ordered_columns tables r l.schema)
          (leb-true 2 (length columns) (met (nat_le 2 (length columns)) (LastColumn r)
          (drop_met m).another)),
      tt,
    )
made_some tables (rename_column b r c) l h m =
    let columns : List Column = columns_of tables r in
    let f : Column → Column = λ (d : Column). if same d.0 b then (c, d.1) else d in (
      some_in_order (map f columns) (let a = found tables h r m.0 in let n = length-map columns f in
          omega (arith, a, n)),
      tt,
    )

next_has_columns : (tables : Tables) (op : Operator) → IsValid tables → Each HasColumn tables
    → op_fault tables op ≡ None → Each HasColumn (schema_after tables op)
next_has_columns tables op l h e = each_after HasColumn tables (line tables op).made
    (line tables op).consumed h (made_some tables op l h (all_preconditions tables op e))

-- and so after operators, one after the other
pub each_has_columns : (tables : Tables) (ops : List Operator) → IsValid tables
    → Each HasColumn tables → AllOperatorsAccepted tables ops
    → Each HasColumn (schema_after_each tables ops)
each_has_columns tables [] l h a = h
each_has_columns tables (op ∷ ops) l h a = each_has_columns (schema_after tables op) ops
    (next_is_valid tables op l a.0) (next_has_columns tables op l h a.0) a.1
