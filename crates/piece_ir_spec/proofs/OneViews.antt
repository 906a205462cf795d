-- The operators that make their tables of one: each table is given by its view.
use Rattle.std.proofs.Common.{◌≡◌, ℕ, Bool, true, false, List, [], ◌∷◌, map, refl, sym, ap, subst}
use Rattle.std.proofs.Common.{◌∙◌, inl}
use Rattle.std.specs.Prelude.{Some, None, if◌then◌else◌}
use Rattle.std.specs.List.{filter, list_all}
use Rattle.std.specs.FinMap.{get}
use Rattle.relations_spec.specs.Sets.{In}
use Rattle.relations_spec.proofs.SetLaws.{in_map, from_map, in_filter, from_filter, in_set}
use Rattle.relations_spec.proofs.SetLaws.{from_set}
use Rattle.prima_base.specs.Order.{row_cmp}
use Rattle.prima_base.specs.OrderLaws.{row_exact}
use Rattle.prima_base.specs.declared.value.Value.{Value}
use Rattle.prima_base.specs.declared.value.ColType.{ColType}
use Rattle.prima_base.specs.Columns.{Column}
use Rattle.schema_catalog.specs.Tables.{Tables}
use Rattle.schema_catalog.specs.Databases.{cell}
use Rattle.cond_expr.specs.declared.expr.Whose.TheVariants.{Atom}
use Rattle.cond_expr.specs.Trees.{Tree, column, Test}
use Rattle.cond_expr.specs.Values.{value, truth}
use Rattle.cond_expr.specs.Kinds.{Kinds, kind_of, is_typed}
use Rattle.smo_ops_types.specs.Operators.{rename_table, copy_table, add_column, drop_column}
use Rattle.smo_ops_types.specs.Operators.{rename_column}
use Rattle.smo_ops_spec.specs.OneRow.{Row, Relation, same, own_kinds, own_cells}
use Rattle.smo_ops_spec.specs.Preconditions.{type_in}
use Rattle.smo_ops_spec.specs.Effects.{columns_of}
use Rattle.smo_ops_spec.specs.Making.{without, renamed, with_column, type_of_value, image}
use Rattle.smo_ops_spec.specs.Making.{added_value}
use Rattle.smo_ops_spec.specs.Making.{moved, from_one}
use Rattle.smo_ops_spec.specs.After.{op_fault, IsValid}
use Rattle.smo_ops_spec.proofs.NameLaws.{same_turned}
use Rattle.smo_ops_spec.proofs.TypeLaws.{own_atom}
use Rattle.smo_ops_spec.proofs.MadeCells.{made_cell}
use Rattle.smo_ops_spec.proofs.NextSchemas.{all_preconditions, is_table}
use Rattle.smo_ops_spec.proofs.OneColumns.{made_columns}
use Rattle.smo_ops_spec.proofs.ColumnsByName.{added_types, dropped_types, renamed_types}
use Rattle.piece_ir_spec.specs.Views.{out_of}
use Rattle.piece_ir_spec.specs.Given.{AreViews}
use Rattle.piece_ir_spec.specs.OperatorViews.{operator_views}
use Rattle.piece_ir_spec.proofs.ViewConstants.{whole_constants, computed_constants}
use Rattle.piece_ir_spec.proofs.OneTable.{IsShown, IsMadeOfOne, given_by_view}

-- an image has the rows that the outputs show
module _ (cs new : List Column) (f : Row → List ℕ → Value) (outs : List (List ℕ × Tree))
    (is : (old : Row) (n : List ℕ) → f old n ≡ value (own_cells cs old) (out_of outs n)) where
  abbrev row_from : Row → Row
  row_from old = map (λ (c : Column). f old c.0) new

  shown : (old : Row) → IsShown cs new outs old (row_from old)
  shown old n m = made_cell new (f old) n m ∙ is old n

  pub made_image : (rows : Relation) → IsMadeOfOne cs new [] outs rows (image new f rows)
  made_image rows = record {
    there = λ row m. from row (from_map row_from row rows
        (from_set row_cmp row_exact row (map row_from rows) m));
    back = λ old m e. (
      row_from old,
      in_set row_cmp row_exact (row_from old) (map row_from rows)
          (in_map row_from old rows m),
      shown old,
    );
  }
    where
      from : (row : Row) → (old : Row) × In old rows × (row_from old ≡ row)
          → (old : Row) × In old rows × (list_all (truth (own_cells cs old)) [] ≡ true)
          × IsShown cs new outs old row
      from row (old, m, e) = (
        old,
        m,
        refl,
        subst (λ (x : Row). IsShown cs new outs old x) e
            (shown old),
      )

-- a selection has the rows that meet the parts
pub made_filter : (cs : List Column) (p : Row → Bool) (parts : List Test)
    → ((row : Row) → list_all (truth (own_cells cs row)) parts ≡ p row)
    → (rows : Relation) → IsMadeOfOne cs cs parts [] rows (filter p rows)
made_filter cs p parts is rows = record {
  there = λ row m. (let h = from_filter p row rows m in (row, h.0, is row ∙ h.1, λ n k. refl));
  back = λ old m e. (old, in_filter p old rows m (sym (is old) ∙ e), λ n k. refl);
}

-- the table as it is
pub made_whole : (cs : List Column) (rows : Relation) → IsMadeOfOne cs cs [] [] rows rows
made_whole cs rows = record {
  there = λ row m. (row, m, refl, λ n k. refl);
  back = λ old m e. (old, m, λ n k. refl);
}

-- a column of the table has its own type
pub own_column : (cs : List Column) (n : List ℕ) (k : ColType) → type_in cs n ≡ Some k
    → kind_of (own_kinds cs) (column (Atom 0) n) ≡ Some k
own_column cs n k e = own_atom cs 0 n refl ∙ e

-- no part
pub none_typed : (of : Kinds) (c : Test) → In c [] → is_typed of c ≡ true
none_typed of c m = absurd m

module _ (tables : Tables) (r : List ℕ) where
  abbrev cs : List Column
  cs = columns_of tables r

  pub rename_table_views : (t : List ℕ) → op_fault tables (rename_table r t) ≡ None
      → AreViews tables (rename_table r t) (operator_views tables (rename_table r t))
  rename_table_views t e = (
    given_by_view tables (rename_table r t) r t cs (λ rows. rows) [] []
        (is_table tables r (all_preconditions tables (rename_table r t) e).0)
        (made_whole cs) (none_typed (own_kinds cs)) (own_column cs) (inl refl)
        (λ h. whole_constants r),
    tt,
  )

  pub copy_table_views : (t : List ℕ) → op_fault tables (copy_table r t) ≡ None
      → AreViews tables (copy_table r t) (operator_views tables (copy_table r t))
  copy_table_views t e = (
    given_by_view tables (copy_table r t) r t cs (λ rows. rows) [] []
        (is_table tables r (all_preconditions tables (copy_table r t) e).0)
        (made_whole cs) (none_typed (own_kinds cs)) (own_column cs) (inl refl)
        (λ h. whole_constants r),
    tt,
  )

  -- another value in one column
  in_one_column : (c : List ℕ) (t : Tree) (old : Row) (n : List ℕ) (b : Bool)
      → (if b then value (own_cells cs old) t else cell cs old n)
      ≡ value (own_cells cs old) (if b then t else column (Atom 0) n)
  in_one_column c t old n true = refl
  in_one_column c t old n false = refl

  module _ (valid : IsValid tables) (c : List ℕ) where
    pub add_column_views : (t : Tree) → op_fault tables (add_column c t r) ≡ None
        → AreViews tables (add_column c t r) (operator_views tables (add_column c t r))
    add_column_views t e = (
      given_by_view tables (add_column c t r) r r new (image new (added_value cs c t)) []
          ((c, t) ∷ [])
          (is_table tables r (all_preconditions tables (add_column c t r) e).0)
          (made_image cs new (added_value cs c t) ((c, t) ∷ [])
          (λ old n. in_one_column c t old n (same c n))) (none_typed (own_kinds cs)) typed
          (inl refl)
          (λ h. computed_constants r c t h),
      tt,
    )
      where
        new : List Column
        new = with_column c (type_of_value cs t) cs

        types : (n : List ℕ) → type_in new n ≡ (if same c n then kind_of (own_kinds cs) t
            else type_in cs n)
        types n =
            ap (λ (x : List Column). type_in x n)
            (sym (made_columns tables (add_column c t r) r new
            (λ x. from_one (image new (added_value cs c t)) (get x r)) e (inl refl)))
            ∙ added_types tables valid.schema r c t n e
            ∙ ap (λ (b : Bool). if b then kind_of (own_kinds cs) t else type_in cs n)
            (same_turned n c)

        step : (n : List ℕ) (k : ColType) (b : Bool)
            → (if b then kind_of (own_kinds cs) t else type_in cs n) ≡ Some k
            → kind_of (own_kinds cs) (if b then t else column (Atom 0) n) ≡ Some k
        step n k true h = h
        step n k false h = own_column cs n k h

        typed : (n : List ℕ) (k : ColType) → type_in new n ≡ Some k
            → kind_of (own_kinds cs) (out_of ((c, t) ∷ []) n) ≡ Some k
        typed n k h = step n k (same c n) (sym (types n) ∙ h)

    pub drop_column_views : op_fault tables (drop_column c r) ≡ None
        → AreViews tables (drop_column c r) (operator_views tables (drop_column c r))
    drop_column_views e = (
      given_by_view tables (drop_column c r) r r new (image new (cell cs)) [] []
          (is_table tables r (all_preconditions tables (drop_column c r) e).0)
          (made_image cs new (cell cs) [] (λ old n. refl)) (none_typed (own_kinds cs)) typed
          (inl refl) (λ h. whole_constants r),
      tt,
    )
      where
        new : List Column
        new = without c cs

        types : (n : List ℕ) → type_in new n ≡ (if same n c then None else type_in cs n)
        types n =
            ap (λ (x : List Column). type_in x n)
            (sym (made_columns tables (drop_column c r) r new
            (λ x. from_one (image new (cell cs)) (get x r)) e (inl refl)))
            ∙ dropped_types tables valid.schema r c n e

        step : (n : List ℕ) (k : ColType) (b : Bool) → (if b then None else type_in cs n) ≡ Some k
            → type_in cs n ≡ Some k
        step n k true h = absurd (cc)
        step n k false h = h

        typed : (n : List ℕ) (k : ColType) → type_in new n ≡ Some k
            → kind_of (own_kinds cs) (column (Atom 0) n) ≡ Some k
        typed n k h = own_column cs n k (step n k (same n c) (sym (types n) ∙ h))

    pub rename_column_views : (b : List ℕ) → op_fault tables (rename_column b r c) ≡ None
        → AreViews tables (rename_column b r c) (operator_views tables (rename_column b r c))
    rename_column_views b e = (
      given_by_view tables (rename_column b r c) r r new (image new (moved cs b c)) []
          ((c, column (Atom 0) b) ∷ [])
          (is_table tables r (all_preconditions tables (rename_column b r c) e).0)
          (made_image cs new (moved cs b c) ((c, column (Atom 0) b) ∷ [])
          (λ old n. in_one_column c (column (Atom 0) b) old n (same c n)))
          (none_typed (own_kinds cs)) typed (inl refl)
          (λ h. computed_constants r c (column (Atom 0) b) tt),
      tt,
    )
      where
        new : List Column
        new = renamed b c cs

        types : (n : List ℕ) → type_in new n ≡ (if same c n then type_in cs b else if same n b
            then None else type_in cs n)
        types n =
            ap (λ (x : List Column). type_in x n)
            (sym (made_columns tables (rename_column b r c) r new
            (λ x. from_one (image new (moved cs b c)) (get x r)) e (inl refl)))
            ∙ renamed_types tables valid.schema r b c n e
            ∙ ap (λ (d : Bool). if d then type_in cs b else if same n b then None else type_in cs n)
            (same_turned n c)

        step : (n : List ℕ) (k : ColType) (d f : Bool)
            → (if d then type_in cs b else if f then None else type_in cs n) ≡ Some k
            → kind_of (own_kinds cs) (if d then column (Atom 0) b else column (Atom 0) n) ≡ Some k
        step n k true f h = own_column cs b k h
        step n k false true h = absurd (cc)
        step n k false false h = own_column cs n k h

        typed : (n : List ℕ) (k : ColType) → type_in new n ≡ Some k
            → kind_of (own_kinds cs) (out_of ((c, column (Atom 0) b) ∷ []) n) ≡ Some k
        typed n k h = step n k (same c n) (same n b) (sym (types n) ∙ h)
