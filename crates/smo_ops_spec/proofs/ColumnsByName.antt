-- The types of made columns, by their names.
use Rattle.std.proofs.Common.{◌≡◌, ℕ, Bool, true, false, List, [], ◌∷◌, ◌++◌, map, refl, sym, ap}
use Rattle.std.proofs.Common.{subst, ◌∙◌, inl, inr}
use Rattle.std.specs.Prelude.{cond, not, ◌⊎◌, if◌then◌else◌, Option, Some, None}
use Rattle.std.specs.List.{filter}
use Rattle.std.specs.FinMap.{get}
use Rattle.relations_spec.specs.Sets.{In}
use Rattle.relations_spec.proofs.SetLaws.{in_left, in_right, in_append, from_filter, in_map}
use Rattle.relations_spec.proofs.SetLaws.{from_map}
use Rattle.prima_base.specs.declared.value.ColType.{ColType}
use Rattle.prima_base.specs.declared.refusal.OpRefusal.TheVariants.{ColumnExists, ColumnsDiffer}
use Rattle.prima_base.specs.declared.refusal.OpRefusal.TheVariants.{WrongType}
use Rattle.prima_base.specs.Columns.{Column, names_of, AreColumns}
use Rattle.prima_base.specs.OrderLaws.{same_is}
use Rattle.schema_catalog.specs.Tables.{Tables, IsSchema}
use Rattle.schema_catalog.specs.Databases.{cell, Rows}
use Rattle.cond_expr.specs.Trees.{Tree, Test}
use Rattle.cond_expr.specs.Kinds.{kind_of}
use Rattle.cond_expr.specs.Faults.{untyped, first_of}
use Rattle.smo_ops_types.specs.Operators.{create_table, merge_table, partition_table}
use Rattle.smo_ops_types.specs.Operators.{decompose_table}
use Rattle.smo_ops_types.specs.Operators.{join_table, add_column, drop_column, rename_column}
use Rattle.smo_ops_spec.specs.OneRow.{same, own_kinds, meets}
use Rattle.smo_ops_spec.specs.Effects.{columns_of}
use Rattle.smo_ops_spec.specs.Preconditions.{among, type_in, is_new, again_after, first_again}
use Rattle.smo_ops_spec.specs.Making.{in_order, named, without, renamed, with_column, type_of_value}
use Rattle.smo_ops_spec.specs.Making.{joined_columns, image, union, added_value, moved, join_rows}
use Rattle.smo_ops_spec.specs.Making.{from_one, from_two}
use Rattle.smo_ops_spec.specs.OperatorTable.{a_table}
use Rattle.smo_ops_spec.specs.After.{op_fault, schema_after}
use Rattle.smo_ops_spec.proofs.Firsts.{met, none_mapped}
use Rattle.smo_ops_spec.proofs.NameLaws.{same_itself, same_turned, in_among, among_in}
use Rattle.smo_ops_spec.proofs.NameLaws.{in_names, own_type}
use Rattle.smo_ops_spec.proofs.FewNames.{one_later}
use Rattle.smo_ops_spec.proofs.ColumnLaws.{in_order_are_columns}
use Rattle.smo_ops_spec.proofs.KeptColumns.{kept_are_columns}
use Rattle.smo_ops_spec.proofs.NextSchemas.{ordered_columns, all_preconditions, is_table}
use Rattle.smo_ops_spec.proofs.MetPreconditions.{create_met, merge_met, partition_met, join_met}
use Rattle.smo_ops_spec.proofs.MetPreconditions.{add_met, new_name_met}
use Rattle.smo_ops_spec.proofs.NextSchemas.{put_are_columns}
use Rattle.smo_ops_spec.proofs.TouchedTables.{opposite, made_is_there, neither}
use Rattle.smo_ops_spec.proofs.MadeRows.{from_with, from_in_order, each_is, column_named, not_this}
use Rattle.smo_ops_spec.proofs.MadeRows.{one_kind, Joinable, value_has_type}
use Rattle.smo_ops_spec.proofs.MadeCells.{among_with, among_in_order, among_kept}
use Rattle.smo_ops_spec.proofs.WholeTables.{found}
use Rattle.smo_ops_spec.proofs.OneColumns.{made_columns}

-- no column has the name
pub no_type : (columns : List Column) (n : List ℕ) → among n (names_of columns) ≡ false
    → type_in columns n ≡ None
no_type [] n e = refl
no_type (c ∷ columns) n e =
    let h = neither (same n c.0) (among n (names_of columns)) e in
    ap (λ b. cond b (Some c.1) (type_in columns n)) (same_turned c.0 n ∙ h.0)
    ∙ no_type columns n h.1

-- a contradiction where a name is among and is not
not_among : (b d : Bool) → (b ≡ true → d ≡ true) → d ≡ false → b ≡ false
not_among true d f e = (let h = f refl in absurd (cc))
not_among false d f e = refl

-- types by name, where they are so of each column
by_name : (new : List Column) (types : List ℕ → Option ColType) (n : List ℕ) → AreColumns new
    → ((d : Column) → In d new → types d.0 ≡ Some d.1)
    → (among n (names_of new) ≡ false → types n ≡ None) → type_in new n ≡ types n
by_name new types n a each none = step (among n (names_of new)) refl
  where
    one : (d : Column) × In d new × (d.0 ≡ n) → type_in new n ≡ types n
    one (d, m, e) = ap (type_in new) (sym e) ∙ own_type new d a m ∙ sym (each d m) ∙ ap types e

    step : (b : Bool) → among n (names_of new) ≡ b → type_in new n ≡ types n
    step true q = one (column_named new n (among_in n (names_of new) q))
    step false q = no_type new n q ∙ sym (none q)

-- names that stand once
once : (before : List (List ℕ)) (cs : List Column) (c : Column)
    → again_after before (names_of cs) ≡ None → In c cs → (among c.0 before ≡ false)
    × (type_in cs c.0 ≡ Some c.1)
once before [] c e m = absurd m
once before (d ∷ cs) c e m = step (among d.0 before) refl e
    (λ f n. once (before ++ d.0 ∷ []) cs c f n) m
  where
    step : (b : Bool) → among d.0 before ≡ b → (if b then Some d.0
        else again_after (before ++ d.0 ∷ []) (names_of cs)) ≡ None
        → (again_after (before ++ d.0 ∷ []) (names_of cs) ≡ None → In c cs
        → (among c.0 (before ++ d.0 ∷ []) ≡ false) × (type_in cs c.0 ≡ Some c.1))
        → In c (d ∷ cs) → (among c.0 before ≡ false) × (type_in (d ∷ cs) c.0 ≡ Some c.1)
    step true q h more i = absurd (cc)
    step false q h more (inl k) = subst (λ (x : Column). (among x.0 before ≡ false)
        × (type_in (d ∷ cs) x.0 ≡ Some x.1)) k
        (q, ap (λ b. cond b (Some d.1) (type_in cs d.0)) (same_itself d.0))
    step false q h more (inr i) =
        let g = more h i in
        let p = neither (among c.0 before) (same c.0 d.0) (sym (one_later c.0 d.0 before) ∙ g.0) in
        (p.0, ap (λ b. cond b (Some d.1) (type_in cs c.0)) (same_turned d.0 c.0 ∙ p.1) ∙ g.1)

pub created_types : (tables : Tables) (r : List ℕ) (cs : List Column) (n : List ℕ)
    → op_fault tables (create_table r cs) ≡ None
    → type_in (columns_of (schema_after tables (create_table r cs)) r) n ≡ type_in cs n
created_types tables r cs n e =
    ap (λ (x : List Column). type_in x n) (made_columns tables (create_table r cs) r (in_order cs)
    (λ x. Rows []) e (inl refl))
    ∙ by_name (in_order cs) (type_in cs) n (in_order_are_columns cs)
    (λ d m. (once [] cs d (none_mapped (ColumnExists r) (first_again (names_of cs))
    (create_met (all_preconditions tables (create_table r cs) e)).named_once)
    (from_in_order cs d m)).1)
    (λ q. no_type cs n (not_among (among n (names_of cs)) (among n (names_of (in_order cs)))
    (λ h. among_in_order cs n (among_in n (names_of cs) h)) q))

module _ (tables : Tables) (schema : IsSchema tables) where
  ordered : (r : List ℕ) → AreColumns (columns_of tables r)
  ordered r = ordered_columns tables r schema

  module _ (r : List ℕ) where
    abbrev cs : List Column
    cs = columns_of tables r

    named_types : (xs : List (List ℕ)) (n : List ℕ)
        → type_in (named xs cs) n ≡ (if among n xs then type_in cs n else None)
    named_types xs n = by_name (named xs cs) (λ m. if among m xs then type_in cs m else None) n
        (kept_are_columns (λ c. among c.0 xs) cs (ordered r))
        (λ d m. let h = from_filter (λ (c : Column). among c.0 xs) d cs m in
        ap (λ b. if b then type_in cs d.0 else None) h.1 ∙ own_type cs d (ordered r) h.0)
        (λ q. step (among n xs) refl q)
      where
        step : (b : Bool) → among n xs ≡ b → among n (names_of (named xs cs)) ≡ false
            → (if b then type_in cs n else None) ≡ None
        step true p q = no_type cs n (not_among (among n (names_of cs))
            (among n (names_of (named xs cs)))
            (among_kept (λ c. among c.0 xs) cs n (λ c e. ap (λ (x : List ℕ). among x xs) e ∙ p)) q)
        step false p q = refl

    pub decomposed_types : (s : List ℕ) (xs : List (List ℕ)) (t : List ℕ) (ys : List (List ℕ))
        (n : List ℕ) → op_fault tables (decompose_table r s xs t ys) ≡ None
        → (type_in (columns_of (schema_after tables (decompose_table r s xs t ys)) s) n
        ≡ (if among n xs then type_in cs n else None))
        × (type_in (columns_of (schema_after tables (decompose_table r s xs t ys)) t) n
        ≡ (if among n ys then type_in cs n else None))
    decomposed_types s xs t ys n e = (
      ap (λ (x : List Column). type_in x n)
          (made_columns tables (decompose_table r s xs t ys) s (named xs cs)
          (λ x. from_one (image (named xs cs) (cell cs)) (get x r)) e (inl refl))
          ∙ named_types xs n,
      ap (λ (x : List Column). type_in x n)
          (made_columns tables (decompose_table r s xs t ys) t (named ys cs)
          (λ x. from_one (image (named ys cs) (cell cs)) (get x r)) e (inr (inl refl)))
          ∙ named_types ys n,
    )

    new_name : (c : List ℕ) → is_new r cs c ≡ None → among c (names_of cs) ≡ false
    new_name c e = opposite (among c (names_of cs))
        (met (not (among c (names_of cs))) (ColumnExists r c) e)

    module _ (c : List ℕ) where
      -- the new column, and the old ones
      with_types : (k : ColType) (n : List ℕ) → among c (names_of cs) ≡ false
          → type_in (with_column c k cs) n ≡ (if same n c then Some k else type_in cs n)
      with_types k n new = by_name (with_column c k cs)
          (λ m. if same m c then Some k else type_in cs m) n (put_are_columns (c, k) cs (ordered r))
          (λ d m. either d (from_with c k cs d m)) (λ q. step (same n c) refl q)
        where
          either : (d : Column) → In d ((c, k) ∷ cs)
              → (if same d.0 c then Some k else type_in cs d.0) ≡ Some d.1
          either d (inl q) = subst (λ (x : Column).
              (if same x.0 c then Some k else type_in cs x.0) ≡ Some x.1) q
              (ap (λ b. if b then Some k else type_in cs c) (same_itself c))
          either d (inr m) = ap (λ b. if b then Some k else type_in cs d.0)
              (same_turned d.0 c ∙ not_this c d.0 (names_of cs) new (in_names cs d m))
              ∙ own_type cs d (ordered r) m

          step : (b : Bool) → same n c ≡ b → among n (names_of (with_column c k cs)) ≡ false
              → (if b then Some k else type_in cs n) ≡ None
          step true p q = (let h = among_with c k cs n (inl (sym (same_is n c p))) in absurd (cc))
          step false p q = no_type cs n (not_among (among n (names_of cs))
              (among n (names_of (with_column c k cs)))
              (λ h. among_with c k cs n (inr (among_in n (names_of cs) h))) q)

      pub added_types : (t : Tree) (n : List ℕ) → op_fault tables (add_column c t r) ≡ None
          → type_in (columns_of (schema_after tables (add_column c t r)) r) n
          ≡ (if same n c then kind_of (own_kinds cs) t else type_in cs n)
      added_types t n e =
          let m = add_met t (all_preconditions tables (add_column c t r) e) in
          let k : ColType = type_of_value cs t in
          ap (λ (x : List Column). type_in x n)
          (made_columns tables (add_column c t r) r (with_column c k cs)
          (λ x. from_one (image (with_column c k cs) (added_value cs c t)) (get x r)) e (inl refl))
          ∙ with_types k n (new_name c m.name_new)
          ∙ ap (λ (o : Option ColType). if same n c then o else type_in cs n)
          (sym (value_has_type cs t (none_mapped WrongType
          (first_of (untyped (own_kinds cs) 0 t)) m.types_right)))

      pub dropped_types : (n : List ℕ) → op_fault tables (drop_column c r) ≡ None
          → type_in (columns_of (schema_after tables (drop_column c r)) r) n
          ≡ (if same n c then None else type_in cs n)
      dropped_types n e =
          ap (λ (x : List Column). type_in x n)
          (made_columns tables (drop_column c r) r (without c cs)
          (λ x. from_one (image (without c cs) (cell cs)) (get x r)) e (inl refl))
          ∙ by_name (without c cs) (λ m. if same m c then None else type_in cs m) n
          (kept_are_columns (λ d. not (same d.0 c)) cs (ordered r))
          (λ d m. let h = from_filter (λ (d : Column). not (same d.0 c)) d cs m in
          ap (λ b. if b then None else type_in cs d.0) (opposite (same d.0 c) h.1)
          ∙ own_type cs d (ordered r) h.0)
          (λ q. step (same n c) refl q)
        where
          step : (b : Bool) → same n c ≡ b → among n (names_of (without c cs)) ≡ false
              → (if b then None else type_in cs n) ≡ None
          step true p q = refl
          step false p q = no_type cs n (not_among (among n (names_of cs))
              (among n (names_of (without c cs)))
              (among_kept (λ d. not (same d.0 c)) cs n
              (λ d e. ap (λ (x : List ℕ). not (same x c)) e ∙ ap not p)) q)

    module _ (b c : List ℕ) where
      abbrev change : Column → Column
      change d = if same d.0 b then (c, d.1) else d

      abbrev types : List ℕ → Option ColType
      types n = if same n c then type_in cs b else if same n b then None else type_in cs n

      of_change : among c (names_of cs) ≡ false → (x d : Column) → In x cs → (t : Bool)
          → same x.0 b ≡ t → (if t then (c, x.1) else x) ≡ d → types d.0 ≡ Some d.1
      of_change new x d m true p e = subst (λ (y : Column). types y.0 ≡ Some y.1) e
          (ap (λ t. if t then type_in cs b else if same c b then None else type_in cs c)
          (same_itself c)
          ∙ ap (type_in cs) (sym (same_is x.0 b p)) ∙ own_type cs x (ordered r) m)
      of_change new x d m false p e = subst (λ (y : Column). types y.0 ≡ Some y.1) e
          (ap (λ t. if t then type_in cs b else if same x.0 b then None else type_in cs x.0)
          (same_turned x.0 c ∙ not_this c x.0 (names_of cs) new (in_names cs x m))
          ∙ ap (λ t. if t then None else type_in cs x.0) p ∙ own_type cs x (ordered r) m)

      each_change : among c (names_of cs) ≡ false → (d : Column) → (x : Column) × In x cs
          × (change x ≡ d) → types d.0 ≡ Some d.1
      each_change new d (x, m, e) = of_change new x d m (same x.0 b) refl e

      has_name : (n : List ℕ) (x : Column) → In x cs → (change x).0 ≡ n
          → among n (names_of (renamed b c cs)) ≡ true
      has_name n x m e = among_in_order (map change cs) n
          (subst (λ (y : List ℕ). In y (names_of (map change cs))) e
          (in_names (map change cs) (change x) (in_map change x cs m)))

      under_new : (x : Column) × In x cs × (x.0 ≡ b) → among c (names_of (renamed b c cs)) ≡ true
      under_new (x, m, e) = has_name c x m (ap (λ t. (if t then (c, x.1) else x).0)
          (ap (λ (y : List ℕ). same y b) e ∙ same_itself b))

      under_old : (n : List ℕ) → same n b ≡ false → (x : Column) × In x cs × (x.0 ≡ n)
          → among n (names_of (renamed b c cs)) ≡ true
      under_old n p (x, m, e) = has_name n x m
          (ap (λ t. (if t then (c, x.1) else x).0) (ap (λ (y : List ℕ). same y b) e ∙ p) ∙ e)

      none_else : (n : List ℕ) → among n (names_of (renamed b c cs)) ≡ false → (p q : Bool)
          → same n c ≡ p → same n b ≡ q
          → (if p then type_in cs b else if q then None else type_in cs n) ≡ None
      none_else n e true q s t = no_type cs b
          (not_among (among b (names_of cs)) (among c (names_of (renamed b c cs)))
          (λ h. under_new (column_named cs b (among_in b (names_of cs) h)))
          (ap (λ (y : List ℕ). among y (names_of (renamed b c cs))) (sym (same_is n c s)) ∙ e))
      none_else n e false true s t = refl
      none_else n e false false s t = no_type cs n
          (not_among (among n (names_of cs)) (among n (names_of (renamed b c cs)))
          (λ h. under_old n t (column_named cs n (among_in n (names_of cs) h))) e)

      pub renamed_types : (n : List ℕ) → op_fault tables (rename_column b r c) ≡ None
          → type_in (columns_of (schema_after tables (rename_column b r c)) r) n
          ≡ (if same n c then type_in cs b else if same n b then None else type_in cs n)
      renamed_types n e =
          ap (λ (x : List Column). type_in x n)
          (made_columns tables (rename_column b r c) r (renamed b c cs)
          (λ x. from_one (image (renamed b c cs) (moved cs b c)) (get x r)) e (inl refl))
          ∙ by_name (renamed b c cs) types n (in_order_are_columns (map change cs))
          (λ d m. each_change
          (new_name c (new_name_met (all_preconditions tables (rename_column b r c) e)).name_new)
          d (from_map change d cs (from_in_order (map change cs) d m)))
          (λ q. none_else n q (same n c) (same n b) refl refl)

  -- the columns of both tables
  module _ (r s : List ℕ) where
    abbrev first : List Column
    first = columns_of tables r

    abbrev second : List Column
    second = columns_of tables s

    abbrev of_both : List ℕ → Option ColType
    of_both n = if among n (names_of first) then type_in first n else type_in second n

    common : Joinable first second → (d : Column) → In d second → (x : Column) × In x first
        × (x.0 ≡ d.0) → type_in first d.0 ≡ Some d.1
    common j d m (x, i, e) =
        ap (type_in first) (sym e) ∙ own_type first x (ordered r) i
        ∙ ap Some (one_kind (type_in second x.0) d.1 x.1
        (ap (type_in second) e ∙ own_type second d (ordered s) m) (each_is _ first x j i))

    of_each : Joinable first second → (d : Column) → In d first ⊎ In d second → (b : Bool)
        → among d.0 (names_of first) ≡ b
        → (if b then type_in first d.0 else type_in second d.0) ≡ Some d.1
    of_each j d (inl m) true q = own_type first d (ordered r) m
    of_each j d (inl m) false q = (let h = in_among d.0 (names_of first) (in_names first d m) in
        absurd (cc))
    of_each j d (inr m) true q = common j d m
        (column_named first d.0 (among_in d.0 (names_of first) q))
    of_each j d (inr m) false q = own_type second d (ordered s) m

    in_first : (n : List ℕ) → (x : Column) × In x first × (x.0 ≡ n)
        → In n (names_of (first ++ second))
    in_first n (x, m, e) = subst (λ (y : List ℕ). In y (names_of (first ++ second))) e
        (in_names (first ++ second) x (in_left x first second m))

    in_second : (n : List ℕ) → (x : Column) × In x second × (x.0 ≡ n)
        → In n (names_of (first ++ second))
    in_second n (x, m, e) = subst (λ (y : List ℕ). In y (names_of (first ++ second))) e
        (in_names (first ++ second) x (in_right x first second m))

    none_of_both_tables : (n : List ℕ) → among n (names_of (joined_columns first second)) ≡ false
        → (b : Bool) → among n (names_of first) ≡ b
        → (if b then type_in first n else type_in second n) ≡ None
    none_of_both_tables n e true q =
        (let h = among_in_order (first ++ second) n
        (in_first n (column_named first n (among_in n (names_of first) q))) in absurd (cc))
    none_of_both_tables n e false q = no_type second n
        (not_among (among n (names_of second)) (among n (names_of (joined_columns first second)))
        (λ h. among_in_order (first ++ second) n
        (in_second n (column_named second n (among_in n (names_of second) h)))) e)

    pub joined_types : (t : List ℕ) (c : Test) (n : List ℕ)
        → op_fault tables (join_table r s t c) ≡ None
        → type_in (columns_of (schema_after tables (join_table r s t c)) t) n
        ≡ (if among n (names_of first) then type_in first n else type_in second n)
    joined_types t c n e =
        ap (λ (x : List Column). type_in x n)
        (made_columns tables (join_table r s t c) t (joined_columns first second)
        (λ x. from_two (join_rows first second c) (get x r) (get x s)) e (inl refl))
        ∙ by_name (joined_columns first second) of_both n (in_order_are_columns (first ++ second))
        (λ d m. of_each (met _ (ColumnsDiffer r s)
        (join_met c (all_preconditions tables (join_table r s t c) e)).types_agree) d
        (in_append d first second (from_in_order (first ++ second) d m))
        (among d.0 (names_of first)) refl)
        (λ q. none_of_both_tables n q (among n (names_of first)) refl)

-- tables of the same columns
pub merged_columns : (tables : Tables) (r s t : List ℕ) → op_fault tables (merge_table r s t) ≡ None
    → get (schema_after tables (merge_table r s t)) t ≡ get tables r
merged_columns tables r s t e =
    made_is_there tables (merge_table r s t) (a_table t (columns_of tables r)
    (λ x. from_two union (get x r) (get x s))) e (inl refl)
    ∙ found (get tables r) (is_table tables r
    (merge_met (all_preconditions tables (merge_table r s t) e)).left_there)

pub parted_columns : (tables : Tables) (r s t : List ℕ) (c : Test)
    → op_fault tables (partition_table r s c t) ≡ None
    → (get (schema_after tables (partition_table r s c t)) s ≡ get tables r)
    × (get (schema_after tables (partition_table r s c t)) t ≡ get tables r)
parted_columns tables r s t c e =
    let there = found (get tables r) (is_table tables r
    (partition_met c (all_preconditions tables (partition_table r s c t) e)).there) in
    let columns : List Column = columns_of tables r in (
      made_is_there tables (partition_table r s c t)
          (a_table s columns (λ x. from_one (filter (meets columns c)) (get x r))) e (inl refl)
          ∙ there,
      made_is_there tables (partition_table r s c t)
          (a_table t columns (λ x. from_one (filter (λ row. not (meets columns c row))) (get x r)))
          e (inr (inl refl)) ∙ there,
    )
