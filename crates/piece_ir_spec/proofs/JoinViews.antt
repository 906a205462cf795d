-- JOIN: the made table is given by the view of its pairs.
use Rattle.std.proofs.Common.{◌≡◌, ℕ, true, List, [], ◌∷◌, map, refl, sym, ap, subst, ◌∙◌, inl, inr}
use Rattle.std.specs.Prelude.{None, if◌then◌else◌}
use Rattle.std.specs.List.{filter, flat_map}
use Rattle.std.specs.FinMap.{get, contains_key}
use Rattle.relations_spec.specs.Sets.{In}
use Rattle.relations_spec.specs.Choices.{Chosen}
use Rattle.relations_spec.proofs.SetLaws.{in_map, from_map, in_filter, from_filter, in_flat_map}
use Rattle.relations_spec.proofs.SetLaws.{from_flat_map, in_set, from_set}
use Rattle.prima_base.specs.Order.{row_cmp}
use Rattle.prima_base.specs.OrderLaws.{row_exact}
use Rattle.prima_base.specs.declared.refusal.OpRefusal.TheVariants.{ColumnsDiffer, WrongType}
use Rattle.prima_base.specs.Columns.{Column, names_of}
use Rattle.schema_catalog.specs.Tables.{Tables}
use Rattle.schema_catalog.specs.Databases.{Database}
use Rattle.cond_expr.specs.Trees.{Test}
use Rattle.cond_expr.specs.Kinds.{is_typed}
use Rattle.cond_expr.specs.Faults.{test_untyped, first_of}
use Rattle.smo_ops_types.specs.Operators.{join_table}
use Rattle.smo_ops_spec.specs.OneRow.{Row, Relation, own_kinds, meets}
use Rattle.smo_ops_spec.specs.Preconditions.{among, type_in}
use Rattle.smo_ops_spec.specs.Effects.{columns_of, rows_under}
use Rattle.smo_ops_spec.specs.Making.{joined_columns, agree, joined_row, join_rows, from_two}
use Rattle.smo_ops_spec.specs.After.{op_fault, IsValid}
use Rattle.smo_ops_spec.proofs.Firsts.{met, none_mapped}
use Rattle.smo_ops_spec.proofs.NextSchemas.{all_preconditions, is_table, ordered_columns}
use Rattle.smo_ops_spec.proofs.MetPreconditions.{JoinMet, join_met}
use Rattle.smo_ops_spec.proofs.MadeRows.{Joinable}
use Rattle.smo_ops_spec.proofs.OneColumns.{made_columns}
use Rattle.smo_ops_spec.proofs.ColumnsByName.{joined_types}
use Rattle.piece_ir_spec.specs.Views.{PlainView}
use Rattle.piece_ir_spec.specs.Constants.{ValidInView}
use Rattle.piece_ir_spec.specs.Given.{Picks, HasOutputs, AreGiven, IsTypedView, AreViews}
use Rattle.piece_ir_spec.specs.OperatorViews.{paired, operator_views}
use Rattle.piece_ir_spec.proofs.ViewConstants.{paired_constants}
use Rattle.piece_ir_spec.proofs.OneTable.{only_one, two_there}
use Rattle.piece_ir_spec.proofs.AddedParts.{both_true, and_true}
use Rattle.piece_ir_spec.proofs.TestLaws.{typed_test}
use Rattle.piece_ir_spec.proofs.PairCells.{joined_cell, all_met, out_typed, test_typed}

two_chosen : (choice : List Row) (first second : Relation) → Chosen choice (first ∷ second ∷ [])
    → (a : Row) × (b : Row) × (choice ≡ a ∷ b ∷ []) × In a first × In b second
two_chosen [] first second h = absurd h
two_chosen (a ∷ []) first second h = absurd h.1
two_chosen (a ∷ (b ∷ [])) first second h = (a, b, refl, h.0, h.1.0)
two_chosen (a ∷ (b ∷ (x ∷ choice))) first second h = absurd h.1.1

module _ (tables : Tables) (r s : List ℕ) (c : Test) where
  abbrev cs : List Column
  cs = columns_of tables r

  abbrev ds : List Column
  ds = columns_of tables s

  abbrev new : List Column
  new = joined_columns cs ds

  abbrev view : PlainView
  view = paired r cs s ds c

  module _ (known : is_typed (own_kinds new) c ≡ true) (db : Database) where
    abbrev first : Relation
    first = rows_under (get db r)

    abbrev second : Relation
    second = rows_under (get db s)

    abbrev made : Relation
    made = join_rows cs ds c first second

    abbrev pairs : Row → List Row
    pairs a = map (joined_row cs ds a) (filter (agree cs ds a) second)

    picked : (a b : Row) → In a first → In b second → agree cs ds a b ≡ true
        → meets new c (joined_row cs ds a b) ≡ true → Picks tables db view (a ∷ b ∷ [])
    picked a b i j e h = record {
      chosen = (i, (j, tt));
      met = all_met cs ds a b c known ∙ and_true (agree cs ds a b)
          (meets new c (joined_row cs ds a b)) e h;
    }

    shown : (a b : Row) → HasOutputs tables new view (a ∷ b ∷ []) (joined_row cs ds a b)
    shown a b = record { is = λ n m. joined_cell cs ds a b n m }

    abbrev IsFrom : Row → Type 0
    IsFrom row = (v : PlainView) × (choice : List Row) × In v (view ∷ []) × Picks tables db v choice
        × HasOutputs tables new v choice row

    from_pair : (row a b : Row) → In a first → In b second → agree cs ds a b ≡ true
        → meets new c row ≡ true → joined_row cs ds a b ≡ row → IsFrom row
    from_pair row a b i j e h q = subst IsFrom q (
      view,
      a ∷ b ∷ [],
      inl refl,
      picked a b i j e
          (subst (λ (x : Row). meets new c x ≡ true) (sym q) h),
      shown a b,
    )

    from_row : (row a : Row) → In a first → meets new c row ≡ true → (b : Row)
        × In b (filter (agree cs ds a) second) × (joined_row cs ds a b ≡ row) → IsFrom row
    from_row row a i h (b, j, q) = (let k = from_filter (agree cs ds a) b second j in
        from_pair row a b i k.0 k.1 h q)

    from_rows : (row : Row) → meets new c row ≡ true → (a : Row) × In a first × In row (pairs a)
        → IsFrom row
    from_rows row h (a, i, j) = from_row row a i h
        (from_map (joined_row cs ds a) row (filter (agree cs ds a) second) j)

    into_made : (a b : Row) → In a first → In b second → agree cs ds a b ≡ true
        → meets new c (joined_row cs ds a b) ≡ true → In (joined_row cs ds a b) made
    into_made a b i j e h =
        in_set row_cmp row_exact (joined_row cs ds a b)
        (filter (meets new c) (flat_map pairs first))
        (in_filter (meets new c) (joined_row cs ds a b) (flat_map pairs first)
        (in_flat_map pairs a (joined_row cs ds a b) first i
        (in_map (joined_row cs ds a) b (filter (agree cs ds a) second)
        (in_filter (agree cs ds a) b second j e))) h)

    of_pair : (choice : List Row) → Picks tables db view choice → (a : Row) × (b : Row)
        × (choice ≡ a ∷ b ∷ []) × In a first × In b second
        → (row : Row) × In row made × HasOutputs tables new view choice row
    of_pair choice p (a, b, q, i, j) =
        let k : Picks tables db view (a ∷ b ∷ []) =
        subst (λ (x : List Row). Picks tables db view x) q p in
        let h = both_true (agree cs ds a b) (meets new c (joined_row cs ds a b))
        (sym (all_met cs ds a b c known) ∙ k.met) in (
          joined_row cs ds a b,
          into_made a b i j h.0 h.1,
          subst (λ (x : List Row). HasOutputs tables new view x (joined_row cs ds a b)) (sym q)
              (shown a b),
        )

    pub join_is_given : AreGiven tables db new made (view ∷ [])
    join_is_given = record {
      there = λ row m. (
          let h = from_filter (meets new c) row (flat_map pairs first)
          (from_set row_cmp row_exact row (filter (meets new c) (flat_map pairs first)) m) in
          from_rows row h.1 (from_flat_map pairs row first h.0));
      back = λ v m. subst (λ (x : PlainView). (choice : List Row) → Picks tables db x choice
          → (row : Row) × In row made × HasOutputs tables new x choice row)
          (only_one view v m) (λ choice p. of_pair choice p
          (two_chosen choice first second p.chosen));
    }

  module _ (valid : IsValid tables) (t : List ℕ) where
    pub join_table_views : op_fault tables (join_table r s t c) ≡ None
        → AreViews tables (join_table r s t c) (operator_views tables (join_table r s t c))
    join_table_views e = (
      record {
        name = refl;
        rows = λ db h. subst (λ (rows : Relation). AreGiven tables db new rows (view ∷ []))
            (sym (two_there (join_rows cs ds c) (get tables r) (get tables s) (get db r) (get db s)
            here too (h r) (h s))) (join_is_given known db);
        typed = λ v m. subst (λ (x : PlainView). IsTypedView tables new x) (only_one view v m)
            typed;
        inputs = λ v m n. subst (λ (x : PlainView). In n x.atoms → In n (r ∷ s ∷ []))
            (only_one view v m) (λ j. j);
        constants = λ h v m. subst ValidInView (only_one view v m) (paired_constants r cs s ds c h);
      },
      tt,
    )
      where
        joins : JoinMet tables r s t c
        joins = join_met c (all_preconditions tables (join_table r s t c) e)

        here : contains_key tables r ≡ true
        here = is_table tables r joins.left_there

        too : contains_key tables s ≡ true
        too = is_table tables s joins.right_there

        one : Joinable cs ds
        one = met _ (ColumnsDiffer r s) joins.types_agree

        known : is_typed (own_kinds new) c ≡ true
        known = typed_test (own_kinds new) 0 c
            (none_mapped WrongType (first_of (test_untyped (own_kinds new) 0 c))
            joins.types_right)

        types : (n : List ℕ) → type_in new n ≡ (if among n (names_of cs) then type_in cs n
            else type_in ds n)
        types n =
            ap (λ (x : List Column). type_in x n)
            (sym (made_columns tables (join_table r s t c) t new
            (λ x. from_two (join_rows cs ds c) (get x r) (get x s)) e (inl refl)))
            ∙ joined_types tables valid.schema r s t c n e

        table_there : (n : List ℕ) → In n (r ∷ s ∷ []) → contains_key tables n ≡ true
        table_there n (inl i) = subst (λ (x : List ℕ). contains_key tables x ≡ true) i here
        table_there n (inr i) = subst (λ (x : List ℕ). contains_key tables x ≡ true)
            (only_one s n i) too

        typed : IsTypedView tables new view
        typed = record {
          there = table_there;
          parts = λ x m. test_typed cs ds types (ordered_columns tables r valid.schema)
              (ordered_columns tables s valid.schema) one c known x m;
          outs = λ n k h. out_typed cs ds types n k h;
        }
