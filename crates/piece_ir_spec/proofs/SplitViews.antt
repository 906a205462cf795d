-- The operators that make two tables, or none, or one of two of the same columns: each table is
-- given by its views.
use Rattle.std.proofs.Common.{◌≡◌, ℕ, Bool, true, false, List, [], ◌∷◌, refl, sym, ap, subst, ◌∙◌}
use Rattle.std.proofs.Common.{inl, inr}
use Rattle.std.specs.Prelude.{not, Option, Some, None, if◌then◌else◌}
use Rattle.std.specs.List.{filter}
use Rattle.std.specs.FinMap.{get, contains_key}
use Rattle.relations_spec.specs.Sets.{In}
use Rattle.prima_base.specs.declared.value.ColType.{ColType}
use Rattle.prima_base.specs.declared.refusal.OpRefusal.TheVariants.{ColumnsDiffer, WrongType}
use Rattle.prima_base.specs.Columns.{Column}
use Rattle.schema_catalog.specs.Tables.{Tables}
use Rattle.schema_catalog.specs.Databases.{cell, Database}
use Rattle.cond_expr.specs.declared.expr.Whose.TheVariants.{Atom}
use Rattle.cond_expr.specs.Trees.{column, Test}
use Rattle.cond_expr.specs.Values.{truth}
use Rattle.cond_expr.specs.Kinds.{kind_of, is_typed}
use Rattle.cond_expr.specs.Faults.{test_untyped, first_of}
use Rattle.smo_ops_types.specs.Operators.{Operator, nop, create_table, drop_table, merge_table}
use Rattle.smo_ops_types.specs.Operators.{partition_table, decompose_table}
use Rattle.smo_ops_spec.specs.OneRow.{Relation, own_kinds, own_cells, meets}
use Rattle.smo_ops_spec.specs.Preconditions.{among, type_in, same_columns}
use Rattle.smo_ops_spec.specs.Effects.{columns_of, rows_under}
use Rattle.smo_ops_spec.specs.Making.{named, image, union, from_one}
use Rattle.smo_ops_spec.specs.After.{op_fault, IsValid}
use Rattle.smo_ops_spec.proofs.Firsts.{met, none_mapped}
use Rattle.smo_ops_spec.proofs.MadeRows.{columns_same}
use Rattle.smo_ops_spec.proofs.NextSchemas.{all_preconditions, is_table}
use Rattle.smo_ops_spec.proofs.MetPreconditions.{partition_met, MergeMet, merge_met}
use Rattle.smo_ops_spec.proofs.OneColumns.{made_columns}
use Rattle.smo_ops_spec.proofs.ColumnsByName.{decomposed_types}
use Rattle.cond_expr.specs.Parts.{parts_but_true as parts}
use Rattle.piece_ir_spec.specs.Views.{PlainView, whole}
use Rattle.piece_ir_spec.specs.Constants.{ValidInView}
use Rattle.piece_ir_spec.specs.Given.{AreGiven, IsTypedView, AreViews}
use Rattle.piece_ir_spec.specs.OperatorViews.{operator_views, unmet}
use Rattle.piece_ir_spec.proofs.ViewConstants.{whole_constants, parts_constants, unmet_constants}
use Rattle.piece_ir_spec.proofs.OneTable.{only_one, given_by_one, given_by_both, two_there}
use Rattle.piece_ir_spec.proofs.OneTable.{typed_by_one, given_by_view}
use Rattle.piece_ir_spec.proofs.OneViews.{made_image, made_filter, made_whole, own_column}
use Rattle.piece_ir_spec.proofs.OneViews.{none_typed}
use Rattle.piece_ir_spec.proofs.TestLaws.{typed_test, part_typed, parts_hold, and_all, unmet_fails}
use Rattle.piece_ir_spec.proofs.TestLaws.{unmet_typed}

-- nothing is made
pub nop_views : (tables : Tables) → AreViews tables nop (operator_views tables nop)
nop_views tables = tt

pub drop_table_views : (tables : Tables) (r : List ℕ)
    → AreViews tables (drop_table r) (operator_views tables (drop_table r))
drop_table_views tables r = tt

-- no row is made
pub create_table_views : (tables : Tables) (r : List ℕ) (cs : List Column)
    → AreViews tables (create_table r cs) (operator_views tables (create_table r cs))
create_table_views tables r cs = (
  record {
    name = refl;
    rows = λ db h. record { there = λ row m. absurd m; back = λ v m. absurd m };
    typed = λ v m. absurd m;
    inputs = λ v m. absurd m;
    constants = λ h v m. absurd m;
  },
  tt,
)

module _ (tables : Tables) (r s t : List ℕ) where
  abbrev cs : List Column
  cs = columns_of tables r

  module _ (c : Test) where
    abbrev by : Operator
    by = partition_table r s c t

    pub partition_table_views : op_fault tables (partition_table r s c t) ≡ None
        → AreViews tables (partition_table r s c t)
        (operator_views tables (partition_table r s c t))
    partition_table_views e =
        let m = partition_met c (all_preconditions tables (partition_table r s c t) e) in
        let here : contains_key tables r ≡ true = is_table tables r m.there in
        let typed : is_typed (own_kinds cs) c ≡ true =
        typed_test (own_kinds cs) 0 c (none_mapped WrongType
        (first_of (test_untyped (own_kinds cs) 0 c)) m.types_right) in (
          given_by_view tables by r s cs (filter (meets cs c)) (parts c) [] here
              (made_filter cs (meets cs c) (parts c) (λ row. parts_hold (own_cells cs row) c))
              (λ x i. part_typed (own_kinds cs) c x typed i) (own_column cs) (inl refl)
              (λ h. parts_constants r c h),
          (
            given_by_view tables by r t cs (filter (λ row. not (meets cs c row))) (unmet c ∷ []) []
                here
                (made_filter cs (λ row. not (meets cs c row)) (unmet c ∷ [])
                (λ row. and_all (truth (own_cells cs row) (unmet c))
                ∙ unmet_fails (own_cells cs row) c))
                (λ x i. subst (λ (y : Test). is_typed (own_kinds cs) y ≡ true)
                (only_one (unmet c) x i) (unmet_typed (own_kinds cs) c typed)) (own_column cs)
                (inl refl)
                (λ h. unmet_constants r c h),
            tt,
          ),
        )

  module _ (valid : IsValid tables) (xs ys : List (List ℕ)) where
    abbrev in_parts : Operator
    in_parts = decompose_table r s xs t ys

    kept : (o : Option ColType) (k : ColType) (b : Bool) → (if b then o else None) ≡ Some k
        → o ≡ Some k
    kept o k true h = h
    kept o k false h = absurd (cc)

    pub decompose_table_views : op_fault tables (decompose_table r s xs t ys) ≡ None
        → AreViews tables (decompose_table r s xs t ys)
        (operator_views tables (decompose_table r s xs t ys))
    decompose_table_views e =
        let m = all_preconditions tables in_parts e in
        let here : contains_key tables r ≡ true = is_table tables r m.0 in (
          given_by_view tables in_parts r s (named xs cs) (image (named xs cs) (cell cs)) [] [] here
              (made_image cs (named xs cs) (cell cs) [] (λ old n. refl)) (none_typed (own_kinds cs))
              first (inl refl) (λ h. whole_constants r),
          (
            given_by_view tables in_parts r t (named ys cs) (image (named ys cs) (cell cs)) [] []
                here
                (made_image cs (named ys cs) (cell cs) [] (λ old n. refl))
                (none_typed (own_kinds cs)) second (inl refl) (λ h. whole_constants r),
            tt,
          ),
        )
      where
        first : (n : List ℕ) (k : ColType) → type_in (named xs cs) n ≡ Some k
            → kind_of (own_kinds cs) (column (Atom 0) n) ≡ Some k
        first n k h = own_column cs n k (kept (type_in cs n) k (among n xs)
            (sym (decomposed_types tables valid.schema r s xs t ys n e).0
            ∙ ap (λ (x : List Column). type_in x n)
            (made_columns tables in_parts s (named xs cs)
            (λ x. from_one (image (named xs cs) (cell cs)) (get x r)) e (inl refl)) ∙ h))

        second : (n : List ℕ) (k : ColType) → type_in (named ys cs) n ≡ Some k
            → kind_of (own_kinds cs) (column (Atom 0) n) ≡ Some k
        second n k h = own_column cs n k (kept (type_in cs n) k (among n ys)
            (sym (decomposed_types tables valid.schema r s xs t ys n e).1
            ∙ ap (λ (x : List Column). type_in x n)
            (made_columns tables in_parts t (named ys cs)
            (λ x. from_one (image (named ys cs) (cell cs)) (get x r)) e (inr (inl refl))) ∙ h))

  abbrev ds : List Column
  ds = columns_of tables s

  pub merge_table_views : op_fault tables (merge_table r s t) ≡ None
      → AreViews tables (merge_table r s t) (operator_views tables (merge_table r s t))
  merge_table_views e = (
    record {
      name = refl;
      rows = λ db h. subst (λ (rows : Relation).
          AreGiven tables db cs rows (whole r ∷ whole s ∷ []))
          (sym (two_there union (get tables r) (get tables s) (get db r) (get db s) here too (h r)
          (h s)))
          (given_by_both tables db cs (rows_under (get db r)) (rows_under (get db s)) (whole r ∷ [])
          (whole s ∷ []) (first db) (second db));
      typed = λ v m. one_typed v m;
      inputs = λ v m n. one_input v m n;
      constants = λ h v m. each_whole v m;
    },
    tt,
  )
    where
      merges : MergeMet tables r s t
      merges = merge_met (all_preconditions tables (merge_table r s t) e)

      here : contains_key tables r ≡ true
      here = is_table tables r merges.left_there

      too : contains_key tables s ≡ true
      too = is_table tables s merges.right_there

      alike : ds ≡ cs
      alike = sym (columns_same cs ds (met (same_columns cs ds) (ColumnsDiffer r s)
          merges.columns_alike))

      first : (db : Database) → AreGiven tables db cs (rows_under (get db r)) (whole r ∷ [])
      first db = given_by_one tables db r cs [] [] (rows_under (get db r))
          (made_whole cs (rows_under (get db r)))

      second : (db : Database) → AreGiven tables db cs (rows_under (get db s)) (whole s ∷ [])
      second db = subst (λ (columns : List Column).
          AreGiven tables db columns (rows_under (get db s)) (whole s ∷ [])) alike
          (given_by_one tables db s ds [] [] (rows_under (get db s))
          (made_whole ds (rows_under (get db s))))

      one_typed : (v : PlainView) → In v (whole r ∷ whole s ∷ []) → IsTypedView tables cs v
      one_typed v (inl i) = subst (λ (x : PlainView). IsTypedView tables cs x) i
          (typed_by_one tables r cs [] [] here (none_typed (own_kinds cs)) (own_column cs))
      one_typed v (inr i) = subst (λ (x : PlainView). IsTypedView tables cs x)
          (only_one (whole s) v i)
          (subst (λ (columns : List Column). IsTypedView tables columns (whole s)) alike
          (typed_by_one tables s ds [] [] too (none_typed (own_kinds ds)) (own_column ds)))

      one_input : (v : PlainView) → In v (whole r ∷ whole s ∷ []) → (n : List ℕ) → In n v.atoms
          → In n (r ∷ s ∷ [])
      one_input v (inl i) n = subst (λ (x : PlainView). In n x.atoms → In n (r ∷ s ∷ [])) i
          (λ j. inl (only_one r n j))
      one_input v (inr i) n = subst (λ (x : PlainView). In n x.atoms → In n (r ∷ s ∷ []))
          (only_one (whole s) v i) (λ j. inr j)

      each_whole : (v : PlainView) → In v (whole r ∷ whole s ∷ []) → ValidInView v
      each_whole v (inl i) = subst ValidInView i (whole_constants r)
      each_whole v (inr i) = subst ValidInView (only_one (whole s) v i) (whole_constants s)
