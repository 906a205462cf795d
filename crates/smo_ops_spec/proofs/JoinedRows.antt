-- The rows of a join are those that meet the condition and have the cells of a row of each table.
use Rattle.std.proofs.Common.{◌≡◌, ℕ, Bool, true, false, List, [], ◌∷◌, ◌++◌, map, refl, sym, ap}
use Rattle.std.proofs.Common.{subst, ◌∙◌, inl, inr}
use Rattle.std.specs.Prelude.{cond, not, ◌&&◌, ◌||◌, ◌⊎◌, ◌↔◌, Option, Some, None}
use Rattle.std.specs.List.{filter, flat_map, list_all}
use Rattle.std.specs.Ordering.{is_eq}
use Rattle.std.specs.FinMap.{get, int_cmp-IsAntisymmetric}
use Rattle.std.specs.declared.cmp.Ordering.{Ordering}
use Rattle.std.specs.declared.cmp.Ordering.TheVariants.{Less, Equal, Greater}
use Rattle.std.proofs.lemmas.Cmp.{tied_itself}
use Rattle.relations_spec.specs.Sets.{In}
use Rattle.relations_spec.proofs.SetLaws.{in_left, in_right, in_append, in_map, from_map, in_filter}
use Rattle.relations_spec.proofs.SetLaws.{from_filter, in_flat_map, from_flat_map, in_set, from_set}
use Rattle.prima_base.specs.declared.value.Value.{Value}
use Rattle.prima_base.specs.declared.value.Value.TheVariants.{Int, Text}
use Rattle.prima_base.specs.Order.{value_cmp, value_eq, row_cmp}
use Rattle.prima_base.specs.OrderLaws.{bytes_exact, row_exact, value_total}
use Rattle.prima_base.specs.Columns.{Column, names_of, IsRow}
use Rattle.schema_catalog.specs.Tables.{Tables}
use Rattle.schema_catalog.specs.Databases.{cell, DatabaseEntry, Rows, Database}
use Rattle.schema_catalog.proofs.Cells.{cells_again}
use Rattle.cond_expr.specs.Trees.{Test}
use Rattle.smo_ops_types.specs.Operators.{join_table}
use Rattle.smo_ops_spec.specs.OneRow.{Row, Relation, meets}
use Rattle.smo_ops_spec.specs.Effects.{columns_of}
use Rattle.smo_ops_spec.specs.Preconditions.{among}
use Rattle.smo_ops_spec.specs.Making.{joined_columns, agree, joined_value, joined_row, join_rows}
use Rattle.smo_ops_spec.specs.Making.{from_two}
use Rattle.smo_ops_spec.specs.OperatorTable.{a_table}
use Rattle.smo_ops_spec.specs.After.{op_fault, schema_after, migrate}
use Rattle.smo_ops_spec.specs.RowMeaning.{SameIn, IsOfJoin}
use Rattle.smo_ops_spec.proofs.NameLaws.{in_among, among_in, in_names}
use Rattle.smo_ops_spec.proofs.ColumnLaws.{in_order_are_columns}
use Rattle.smo_ops_spec.proofs.TouchedTables.{made_is_migrated}
use Rattle.smo_ops_spec.proofs.MadeRows.{from_in_order, each_is, column_named}
use Rattle.smo_ops_spec.proofs.MadeCells.{made_cell, among_in_order}
use Rattle.smo_ops_spec.proofs.WholeTables.{one_relation}
use Rattle.smo_ops_spec.proofs.OneColumns.{made_columns}

-- lists member by member
each_so : {X : Type 0} (p : X → Bool) (xs : List X) → ((x : X) → In x xs → p x ≡ true)
    → list_all p xs ≡ true
each_so p [] h = refl
each_so p (x ∷ xs) h = ap (λ b. b && list_all p xs) (h x (inl refl))
    ∙ each_so p xs (λ y m. h y (inr m))

same_map : {X Y : Type 0} (f g : X → Y) (xs : List X) → ((x : X) → In x xs → f x ≡ g x)
    → map f xs ≡ map g xs
same_map f g [] h = refl
same_map f g (x ∷ xs) h = ap (λ y. y ∷ map f xs) (h x (inl refl))
    ∙ ap (λ l. g x ∷ l) (same_map f g xs (λ y m. h y (inr m)))

-- values that the order does not tell apart
value_same : (x y : Value) → value_cmp x y ≡ Equal → x ≡ y
value_same (Int a) (Int b) e = ap Int (int_cmp-IsAntisymmetric a b e)
value_same (Int a) (Text b) e = absurd (cc)
value_same (Text a) (Int b) e = absurd (cc)
value_same (Text a) (Text b) e = ap Text (bytes_exact.same a b e)

equal_values : (x y : Value) → value_eq x y ≡ true → x ≡ y
equal_values x y e = step (value_cmp x y) refl e
  where
    step : (o : Ordering) → value_cmp x y ≡ o → is_eq o ≡ true → x ≡ y
    step Less q h = absurd (cc)
    step Equal q h = value_same x y q
    step Greater q h = absurd (cc)

values_equal : (x y : Value) → x ≡ y → value_eq x y ≡ true
values_equal x y e = subst (λ z. value_eq x z ≡ true) e (ap is_eq (tied_itself value_total x))

module _ (cs ds : List Column) where
  abbrev joined : List Column
  joined = joined_columns cs ds

  -- a row with the cells of a row of each
  abbrev pub HasBoth : Row → Row → Row → Type 0
  HasBoth a b row = SameIn (names_of cs) cs joined a row × SameIn (names_of ds) ds joined b row

  agrees : (a b row : Row) → HasBoth a b row → agree cs ds a b ≡ true
  agrees a b row h = each_so (λ (c : Column).
      not (among c.0 (names_of ds)) || value_eq (cell cs a c.0) (cell ds b c.0)) cs
      (λ c m. step c m (among c.0 (names_of ds)) refl)
    where
      step : (c : Column) → In c cs → (t : Bool) → among c.0 (names_of ds) ≡ t
          → (not t || value_eq (cell cs a c.0) (cell ds b c.0)) ≡ true
      step c m false q = refl
      step c m true q = values_equal (cell cs a c.0) (cell ds b c.0)
          (sym (h.0 c.0 (in_among c.0 (names_of cs) (in_names cs c m))) ∙ h.1 c.0 q)

  shown_row : (a b row : Row) → IsRow joined row → HasBoth a b row → joined_row cs ds a b ≡ row
  shown_row a b row i h =
      same_map (λ (c : Column). joined_value cs ds a b c.0) (λ (c : Column). cell joined row c.0)
      joined (λ c m. step c m (among c.0 (names_of cs)) refl)
      ∙ cells_again joined row (in_order_are_columns (cs ++ ds)) i
    where
      second : (c : Column) → among c.0 (names_of cs) ≡ false → In c cs ⊎ In c ds
          → among c.0 (names_of ds) ≡ true
      second c q (inl m) = (let k = in_among c.0 (names_of cs) (in_names cs c m) in absurd (cc))
      second c q (inr m) = in_among c.0 (names_of ds) (in_names ds c m)

      step : (c : Column) → In c joined → (t : Bool) → among c.0 (names_of cs) ≡ t
          → cond t (cell cs a c.0) (cell ds b c.0) ≡ cell joined row c.0
      step c m true q = sym (h.0 c.0 q)
      step c m false q = sym (h.1 c.0 (second c q
          (in_append c cs ds (from_in_order (cs ++ ds) c m))))

  module _ (c : Test) (first second : Relation) where
    abbrev pairs : Row → List Row
    pairs a = map (joined_row cs ds a) (filter (agree cs ds a) second)

    pub into_join : (a b row : Row) → In a first → In b second → IsRow joined row → HasBoth a b row
        → meets joined c row ≡ true → In row (join_rows cs ds c first second)
    into_join a b row m n i h e =
        in_set row_cmp row_exact row (filter (meets joined c) (flat_map pairs first))
        (in_filter (meets joined c) row (flat_map pairs first)
        (in_flat_map pairs a row first m (subst (λ x. In x (pairs a)) (shown_row a b row i h)
        (in_map (joined_row cs ds a) b (filter (agree cs ds a) second)
        (in_filter (agree cs ds a) b second n (agrees a b row h))))) e)

    -- the cells of a joined row
    common_cell : (a b : Row) → agree cs ds a b ≡ true → (n : List ℕ) → among n (names_of ds) ≡ true
        → (t : Bool) → among n (names_of cs) ≡ t
        → cond t (cell cs a n) (cell ds b n) ≡ cell ds b n
    common_cell a b e n q false p = refl
    common_cell a b e n q true p = step (column_named cs n (among_in n (names_of cs) p))
      where
        agreed : (x : Column) → among x.0 (names_of ds) ≡ true
            → (not (among x.0 (names_of ds)) || value_eq (cell cs a x.0) (cell ds b x.0)) ≡ true
            → value_eq (cell cs a x.0) (cell ds b x.0) ≡ true
        agreed x there h = sym (ap (λ t. not t || value_eq (cell cs a x.0) (cell ds b x.0)) there)
            ∙ h

        step : (x : Column) × In x cs × (x.0 ≡ n) → cell cs a n ≡ cell ds b n
        step (x, m, k) = subst (λ (y : List ℕ). cell cs a y ≡ cell ds b y) k
            (equal_values (cell cs a x.0) (cell ds b x.0)
            (agreed x (ap (λ (y : List ℕ). among y (names_of ds)) k ∙ q)
            (each_is (λ (y : Column). not (among y.0 (names_of ds))
            || value_eq (cell cs a y.0) (cell ds b y.0)) cs x e m)))

    in_names_joined : (n : List ℕ) → In n (names_of cs) ⊎ In n (names_of ds)
        → In n (names_of joined)
    in_names_joined n m = among_in n (names_of joined) (among_in_order (cs ++ ds) n (either m))
      where
        of_left : (x : Column) × In x cs × (x.0 ≡ n) → In n (names_of (cs ++ ds))
        of_left (x, i, k) = subst (λ (y : List ℕ). In y (names_of (cs ++ ds))) k
            (in_names (cs ++ ds) x (in_left x cs ds i))

        of_right : (x : Column) × In x ds × (x.0 ≡ n) → In n (names_of (cs ++ ds))
        of_right (x, i, k) = subst (λ (y : List ℕ). In y (names_of (cs ++ ds))) k
            (in_names (cs ++ ds) x (in_right x cs ds i))

        either : In n (names_of cs) ⊎ In n (names_of ds) → In n (names_of (cs ++ ds))
        either (inl i) = of_left (column_named cs n i)
        either (inr i) = of_right (column_named ds n i)

    shows : (a b : Row) → agree cs ds a b ≡ true → HasBoth a b (joined_row cs ds a b)
    shows a b e = (
      λ n q. made_cell joined (joined_value cs ds a b) n
          (in_names_joined n (inl (among_in n (names_of cs) q)))
          ∙ ap (λ t. cond t (cell cs a n) (cell ds b n)) q,
      λ n q. made_cell joined (joined_value cs ds a b) n
          (in_names_joined n (inr (among_in n (names_of ds) q)))
          ∙ common_cell a b e n q (among n (names_of cs)) refl,
    )

    pub from_join : (row : Row) → In row (join_rows cs ds c first second)
        → IsOfJoin cs ds joined c first second row
    from_join row m =
        let h = from_filter (meets joined c) row (flat_map pairs first)
        (from_set row_cmp row_exact row (filter (meets joined c) (flat_map pairs first)) m) in
        (h.1, of_pair (from_flat_map pairs row first h.0))
      where
        of_row : (a : Row) → In a first → (b : Row) × In b (filter (agree cs ds a) second)
            × (joined_row cs ds a b ≡ row)
            → (a : Row) × (b : Row) × In a first × In b second
            × SameIn (names_of cs) cs joined a row × SameIn (names_of ds) ds joined b row
        of_row a i (b, n, e) =
            (let k = from_filter (agree cs ds a) b second n in let s =
            subst (HasBoth a b) e (shows a b k.1) in (a, b, i, k.0, s.0, s.1))

        of_pair : (a : Row) × In a first × In row (pairs a) → (a : Row) × (b : Row) × In a first
            × In b second × SameIn (names_of cs) cs joined a row
            × SameIn (names_of ds) ds joined b row
        of_pair (a, i, n) = of_row a i (from_map (joined_row cs ds a) row
            (filter (agree cs ds a) second) n)

    pub is_of_join : (row : Row) → IsRow joined row → IsOfJoin cs ds joined c first second row
        → In row (join_rows cs ds c first second)
    is_of_join row i h = (let p = h.1 in into_join p.0 p.1 row p.2 p.3 i (p.4, p.5) h.0)

-- what is made of two tables that are there
pub joined_rows : (tables : Tables) (r s t : List ℕ) (c : Test) (db : Database)
    (first second made : Relation) (row : Row) → op_fault tables (join_table r s t c) ≡ None
    → get db r ≡ Some (Rows first) → get db s ≡ Some (Rows second)
    → get (migrate tables (join_table r s t c) db) t ≡ Some (Rows made)
    → IsRow (columns_of (schema_after tables (join_table r s t c)) t) row
    → In row made ↔ IsOfJoin (columns_of tables r) (columns_of tables s)
    (columns_of (schema_after tables (join_table r s t c)) t) c first second row
joined_rows tables r s t c db first second made row e is also now i =
    let cs : List Column = columns_of tables r in
    let ds : List Column = columns_of tables s in
    let f : Relation → Relation → Relation = join_rows cs ds c in
    let columns : columns_of (schema_after tables (join_table r s t c)) t ≡ joined_columns cs ds =
    made_columns tables (join_table r s t c) t (joined_columns cs ds)
    (λ x. from_two f (get x r) (get x s)) e (inl refl) in
    let rows : f first second ≡ made =
    one_relation (f first second) made
    (ap (λ (x : Option DatabaseEntry). Some (from_two f x (Some (Rows second)))) (sym is)
    ∙ ap (λ (x : Option DatabaseEntry). Some (from_two f (get db r) x)) (sym also)
    ∙ sym (made_is_migrated tables (join_table r s t c) db
    (a_table t (joined_columns cs ds) (λ x. from_two f (get x r) (get x s))) e (inl refl))
    ∙ now) in
    subst (λ (es : List Column). In row made ↔ IsOfJoin cs ds es c first second row) (sym columns) (
      λ m. from_join cs ds c first second row (subst (In row) (sym rows) m),
      λ h. subst (In row) rows (is_of_join cs ds c first second row
          (subst (λ (new : List Column). IsRow new row) columns i) h),
    )
