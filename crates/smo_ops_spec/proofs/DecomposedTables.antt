-- The tables of a DECOMPOSE are the projections, and joined again they have the columns of the
-- table before and each of its rows.
use Rattle.std.proofs.Common.{◌≡◌, ℕ, Bool, true, false, List, [], ◌∷◌, ◌++◌, map, refl, sym, ap}
use Rattle.std.proofs.Common.{subst, ◌∙◌, inl, inr}
use Rattle.std.specs.Prelude.{◌||◌, ◌⊎◌, Option, Some, None}
use Rattle.std.specs.List.{list_all, list_any}
use Rattle.std.specs.Option.{unwrap_or}
use Rattle.std.specs.FinMap.{get}
use Rattle.std.specs.declared.cmp.Ordering.TheVariants.{Less, Equal}
use Rattle.relations_spec.specs.Sets.{In, Ascends, BeforeAll, set_of}
use Rattle.relations_spec.proofs.SetLaws.{in_left, in_right, in_append, in_map, in_filter}
use Rattle.relations_spec.proofs.SetLaws.{from_filter}
use Rattle.relations_spec.proofs.SetLaws.{in_set, one_list_of, told_apart}
use Rattle.prima_base.specs.declared.refusal.OpRefusal.TheVariants.{BadCover}
use Rattle.prima_base.specs.Order.{bytes_cmp, row_cmp}
use Rattle.prima_base.specs.OrderLaws.{bytes_exact, row_exact}
use Rattle.prima_base.specs.Columns.{Column, names_of, AreColumns, IsRow}
use Rattle.schema_catalog.specs.Tables.{Tables, IsSchema}
use Rattle.schema_catalog.specs.Databases.{cell, DatabaseEntry, Rows, Database}
use Rattle.cond_expr.specs.Trees.{always}
use Rattle.smo_ops_types.specs.Operators.{decompose_table}
use Rattle.smo_ops_spec.specs.OneRow.{Row, Relation}
use Rattle.smo_ops_spec.specs.Effects.{columns_of}
use Rattle.smo_ops_spec.specs.Preconditions.{among}
use Rattle.smo_ops_spec.specs.Making.{column_cmp, in_order, named, joined_columns, image, join_rows}
use Rattle.smo_ops_spec.specs.Making.{from_one}
use Rattle.smo_ops_spec.specs.After.{op_fault, schema_after, migrate}
use Rattle.smo_ops_spec.specs.Losses.{IsEntryOrLost, IsDatabaseWithLosses}
use Rattle.smo_ops_spec.specs.RowMeaning.{RowsFollow, SameIn}
use Rattle.smo_ops_spec.proofs.Firsts.{met}
use Rattle.smo_ops_spec.proofs.NameLaws.{among_in, in_names}
use Rattle.smo_ops_spec.proofs.ColumnLaws.{in_order_are_columns}
use Rattle.smo_ops_spec.proofs.NextSchemas.{all_preconditions, ordered_columns}
use Rattle.smo_ops_spec.proofs.MetPreconditions.{decompose_met}
use Rattle.smo_ops_spec.proofs.MadeRows.{from_in_order, both, each_is}
use Rattle.smo_ops_spec.proofs.MadeCells.{made_cell, same_cell, into_put, among_kept}
use Rattle.smo_ops_spec.proofs.OneColumns.{made_of_one, made_columns, follows}
use Rattle.smo_ops_spec.proofs.JoinedRows.{is_of_join}

-- columns ascend by their names, and each is one
before_columns : (c : Column) (cs : List Column) → BeforeAll bytes_cmp c.0 (names_of cs)
    → BeforeAll column_cmp c cs
before_columns c [] h = tt
before_columns c (d ∷ cs) h = (h.0, before_columns c cs h.1)

columns_ascend : (cs : List Column) → AreColumns cs → Ascends column_cmp cs
columns_ascend [] a = tt
columns_ascend (c ∷ cs) a = (before_columns c cs a.0, columns_ascend cs a.1)

one_column : (cs : List Column) → AreColumns cs → (c d : Column) → In c cs → In d cs
    → column_cmp c d ≡ Equal → c ≡ d
one_column cs a c d m n e = step (told_apart column_cmp cs (columns_ascend cs a) c d m n)
  where
    step : (c ≡ d) ⊎ ((column_cmp c d ≡ Less) ⊎ (column_cmp d c ≡ Less)) → c ≡ d
    step (inl q) = q
    step (inr (inl q)) = absurd (cc)
    step (inr (inr q)) = absurd (bytes_exact.apart d.0
        (subst (λ (x : List ℕ). bytes_cmp d.0 x ≡ Less) (bytes_exact.same c.0 d.0 e) q))

into_order : (cs : List Column) → AreColumns cs → (xs : List Column)
    → ((x : Column) → In x xs → In x cs) → (z : Column) → In z xs → In z (in_order xs)
unfolding set_of
into_order cs a [] h z m = m
into_order cs a (x ∷ xs) h z m =
    into_put column_cmp x z (in_order xs) (λ y n e.
    one_column cs a x y (h x (inl refl)) (h y (inr (from_in_order xs y n))) e)
    (elim m [ inl q ↦ inl q | inr n ↦ inr (into_order cs a xs (λ y k. h y (inr k)) z n) ])

module _ (cs : List Column) (xs ys : List (List ℕ)) where
  abbrev parts : List Column
  parts = named xs cs ++ named ys cs

  of_parts : (z : Column) → In z parts → In z cs
  of_parts z m = elim (in_append z (named xs cs) (named ys cs) m) [
    | inl i ↦ (from_filter (λ (c : Column). among c.0 xs) z cs i).0
    | inr i ↦ (from_filter (λ (c : Column). among c.0 ys) z cs i).0
  ]

  module _ (a : AreColumns cs) (whole : list_all (λ n. among n xs || among n ys) (names_of cs)
      ≡ true) where
    in_part : (z : Column) → In z cs → (b d : Bool) → among z.0 xs ≡ b → among z.0 ys ≡ d
        → (b || d) ≡ true → In z parts
    in_part z m true d p q e = in_left z (named xs cs) (named ys cs)
        (in_filter (λ (c : Column). among c.0 xs) z cs m p)
    in_part z m false true p q e = in_right z (named xs cs) (named ys cs)
        (in_filter (λ (c : Column). among c.0 ys) z cs m q)
    in_part z m false false p q e = absurd (cc)

    again : joined_columns (named xs cs) (named ys cs) ≡ cs
    again = one_list_of column_cmp (λ x y z p q. bytes_exact.trans x.0 y.0 z.0 p q)
        (λ x e. bytes_exact.apart x.0 e)
        (in_order parts) cs (columns_ascend (in_order parts) (in_order_are_columns parts))
        (columns_ascend cs a) (record {
          there = λ z m. of_parts z (from_in_order parts z m);
          back = λ z m. into_order cs a parts of_parts z
              (in_part z m (among z.0 xs) (among z.0 ys) refl refl
              (each_is (λ n. among n xs || among n ys) (names_of cs) z.0 whole
              (in_names cs z m)));
        })

    abbrev part : List (List ℕ) → Row → Row
    part names row = map (λ (c : Column). cell cs row c.0) (named names cs)

    part_shows : (names : List (List ℕ)) (row : Row)
        → SameIn (names_of (named names cs)) (named names cs) cs (part names row) row
    part_shows names row = λ n q. sym (made_cell (named names cs) (cell cs row) n
        (among_in n (names_of (named names cs)) q))

    row_again : (row : Row) (rows : Relation) → IsRow cs row → In row rows
        → In row (join_rows (named xs cs) (named ys cs) always (image (named xs cs) (cell cs) rows)
        (image (named ys cs) (cell cs) rows))
    row_again row rows i m =
        is_of_join (named xs cs) (named ys cs) always (image (named xs cs) (cell cs) rows)
        (image (named ys cs) (cell cs) rows) row
        (subst (λ (c : List Column). IsRow c row) (sym again) i) (
          refl,
          (
            part xs row,
            part ys row,
            in_set row_cmp row_exact (part xs row) (map (part xs) rows)
                (in_map (part xs) row rows m),
            in_set row_cmp row_exact (part ys row) (map (part ys) rows)
                (in_map (part ys) row rows m),
            subst (λ (c : List Column). SameIn (names_of (named xs cs)) (named xs cs) c
                (part xs row) row) (sym again) (part_shows xs row),
            subst (λ (c : List Column). SameIn (names_of (named ys cs)) (named ys cs) c
                (part ys row) row) (sym again) (part_shows ys row),
          ),
        )

-- the projection on the columns of these names
projected : (cs : List Column) (names : List (List ℕ)) (row : Row)
    → SameIn names cs (named names cs) row (map (λ (c : Column). cell cs row c.0) (named names cs))
projected cs names row = λ n q. same_cell cs (named names cs) (cell cs row) row n refl
    (among_kept (λ c. among c.0 names) cs n (λ c e. ap (λ (x : List ℕ). among x names) e ∙ q))

module _ (tables : Tables) (r s : List ℕ) (xs : List (List ℕ)) (t : List ℕ) (ys : List (List ℕ))
    (e : op_fault tables (decompose_table r s xs t ys) ≡ None) where
  abbrev cs : List Column
  cs = columns_of tables r

  abbrev next : Tables
  next = schema_after tables (decompose_table r s xs t ys)

  first_columns : columns_of next s ≡ named xs cs
  first_columns = made_columns tables (decompose_table r s xs t ys) s (named xs cs)
      (λ x. from_one (image (named xs cs) (cell cs)) (get x r)) e (inl refl)

  second_columns : columns_of next t ≡ named ys cs
  second_columns = made_columns tables (decompose_table r s xs t ys) t (named ys cs)
      (λ x. from_one (image (named ys cs) (cell cs)) (get x r)) e (inr (inl refl))

  ordered : IsSchema tables → AreColumns cs
  ordered h = ordered_columns tables r h

  covered : list_all (λ n. among n xs || among n ys) (names_of cs) ≡ true
  covered = (both (list_any (λ x. among x ys) xs)
      (list_all (λ n. among n xs || among n ys) (names_of cs))
      (met _ (BadCover r)
      (decompose_met (all_preconditions tables (decompose_table r s xs t ys) e)).covered)).1

  pub columns_again : IsSchema tables → joined_columns (columns_of next s) (columns_of next t) ≡ cs
  columns_again h = ap (λ (c : List Column). joined_columns c (columns_of next t)) first_columns
      ∙ ap (λ (c : List Column). joined_columns (named xs cs) c) second_columns
      ∙ again cs xs ys (ordered h) covered

  module _ (db : Database) (rows : Relation) (is : get db r ≡ Some (Rows rows)) where
    first_rows : (left : Relation) → get (migrate tables (decompose_table r s xs t ys) db) s
        ≡ Some (Rows left) → image (named xs cs) (cell cs) rows ≡ left
    first_rows left now = made_of_one tables (decompose_table r s xs t ys) db r s (named xs cs)
        (image (named xs cs) (cell cs)) rows left e (inl refl) is now

    second_rows : (right : Relation) → get (migrate tables (decompose_table r s xs t ys) db) t
        ≡ Some (Rows right) → image (named ys cs) (cell cs) rows ≡ right
    second_rows right now = made_of_one tables (decompose_table r s xs t ys) db r t (named ys cs)
        (image (named ys cs) (cell cs)) rows right e (inr (inl refl)) is now

    pub first_projection : (left : Relation) → get (migrate tables (decompose_table r s xs t ys) db)
        s ≡ Some (Rows left) → RowsFollow (SameIn xs cs (columns_of next s)) rows left
    first_projection left now = follows (SameIn xs cs) (named xs cs) (columns_of next s) (cell cs)
        rows left first_columns (first_rows left now) (projected cs xs)

    pub second_projection : (right : Relation)
        → get (migrate tables (decompose_table r s xs t ys) db) t ≡ Some (Rows right)
        → RowsFollow (SameIn ys cs (columns_of next t)) rows right
    second_projection right now = follows (SameIn ys cs) (named ys cs) (columns_of next t) (cell cs)
        rows right second_columns (second_rows right now) (projected cs ys)

    pub rows_again : (left right : Relation) → IsSchema tables → IsDatabaseWithLosses tables db
        → get (migrate tables (decompose_table r s xs t ys) db) s ≡ Some (Rows left)
        → get (migrate tables (decompose_table r s xs t ys) db) t ≡ Some (Rows right)
        → (row : Row) → In row rows → In row (join_rows (columns_of next s) (columns_of next t)
        always left right)
    rows_again left right h d now also row m =
        subst (λ (c : List Column). In row (join_rows c (columns_of next t) always left right))
        (sym first_columns)
        (subst (λ (c : List Column). In row (join_rows (named xs cs) c always left right))
        (sym second_columns)
        (subst (λ (x : Relation). In row (join_rows (named xs cs) (named ys cs) always x right))
        (first_rows left now)
        (subst (λ (x : Relation). In row (join_rows (named xs cs) (named ys cs) always
        (image (named xs cs) (cell cs) rows) x)) (second_rows right also)
        (row_again cs xs ys (ordered h) covered row rows
        (fits (get tables r) (subst (λ (x : Option DatabaseEntry).
        IsEntryOrLost (get tables r) x) is (d r))) m))))
      where
        fits : (o : Option (List Column)) → IsEntryOrLost o (Some (Rows rows))
            → IsRow (unwrap_or o []) row
        fits None i = absurd i
        fits (Some columns) i = i.fitting row m
