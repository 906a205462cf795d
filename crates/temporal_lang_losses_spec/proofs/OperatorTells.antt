-- The views of each operator ask for nothing that is lost, where no input is, and its rows are
-- told.
use Rattle.std.proofs.Common.{◌≡◌, ℕ, Bool, true, false, List, [], ◌∷◌, refl, sym, ap, subst, ◌∙◌}
use Rattle.std.proofs.Common.{inl, inr}
use Rattle.std.specs.Prelude.{Option, None, if◌then◌else◌}
use Rattle.relations_spec.specs.Sets.{In}
use Rattle.prima_base.specs.Columns.{Column}
use Rattle.schema_catalog.specs.Tables.{Tables}
use Rattle.cond_expr.specs.declared.expr.Whose.TheVariants.{Atom}
use Rattle.cond_expr.specs.Trees.{column}
use Rattle.cond_expr.specs.Faults.{test_references}
use Rattle.smo_ops_types.specs.Operators.{Operator, nop, create_table, drop_table, rename_table}
use Rattle.smo_ops_types.specs.Operators.{copy_table, merge_table, partition_table, decompose_table}
use Rattle.smo_ops_types.specs.Operators.{join_table, add_column, drop_column, rename_column}
use Rattle.smo_ops_spec.specs.OneRow.{same}
use Rattle.smo_ops_spec.specs.Effects.{columns_of}
use Rattle.smo_ops_spec.specs.OperatorTable.{line}
use Rattle.smo_ops_spec.specs.Touching.{made_of}
use Rattle.smo_ops_spec.specs.Losses.{Loss, first_loss}
use Rattle.piece_ir_spec.specs.Views.{PlainView, whole}
use Rattle.piece_ir_spec.specs.OperatorViews.{operator_views, common_names, paired}
use Rattle.piece_ir_spec.proofs.OneTable.{only_one}
use Rattle.smo_ops_versions_spec.specs.ColumnLosses.{Losses, column_loss}
use Rattle.smo_ops_versions_spec.specs.LostNames.{first_named, in_inputs, rows_lost}
use Rattle.smo_ops_versions_spec.specs.LostNames.{made_column_loss}
use Rattle.temporal_lang_losses_spec.proofs.AlikeChoices.{NoneLost}
use Rattle.temporal_lang_losses_spec.proofs.MadeFollow.{IfKnown}
use Rattle.smo_ops_versions_spec.proofs.LossMaps.{or_none, none_first}
use Rattle.temporal_lang_losses_spec.proofs.MadeAgree.{EachTells}
use Rattle.temporal_lang_losses_spec.proofs.OneTells.{whole_tells, met_tells, unmet_tells}
use Rattle.temporal_lang_losses_spec.proofs.OneTells.{computed_tells, same_value}
use Rattle.temporal_lang_losses_spec.proofs.PairTells.{paired_tells}

module _ (losses : Losses) where
  abbrev AllTell : (List ℕ → Option Loss) → List Column → List PlainView → Type 0
  AllTell lost columns views = (v : PlainView) → In v views → IfKnown losses lost columns v v.outs

  one_tells : (lost : List ℕ → Option Loss) (columns : List Column) (v : PlainView)
      → IfKnown losses lost columns v v.outs → AllTell lost columns (v ∷ [])
  one_tells lost columns v t w m = subst (λ (x : PlainView). IfKnown losses lost columns x x.outs)
      (only_one v w m) t

  two_tell : (lost : List ℕ → Option Loss) (columns : List Column) (v u : PlainView)
      → IfKnown losses lost columns v v.outs → IfKnown losses lost columns u u.outs
      → AllTell lost columns (v ∷ u ∷ [])
  two_tell lost columns v u t s w (inl e) =
      subst (λ (x : PlainView). IfKnown losses lost columns x x.outs) e t
  two_tell lost columns v u t s w (inr m) = one_tells lost columns u s w m

  module _ (tables : Tables) where
    -- a column that is not lost in the inputs is not lost in the one that is read
    of_input : (inputs : List (List ℕ)) (r : List ℕ) → In r inputs → (n : List ℕ)
        → first_loss (λ (x : List ℕ). column_loss losses x n) inputs ≡ None
        → column_loss losses r n ≡ None
    of_input inputs r m n e = none_first (λ x. column_loss losses x n) inputs e r m

    other_column : (c n : List ℕ) (o p : Option Loss) → same c n ≡ false
        → (if same c n then o else p) ≡ None → p ≡ None
    other_column c n o p e h = sym (ap (λ (b : Bool). if b then o else p) e) ∙ h

    this_column : (c n : List ℕ) (o p : Option Loss) → same c n ≡ true
        → (if same c n then o else p) ≡ None → o ≡ None
    this_column c n o p e h = sym (ap (λ (b : Bool). if b then o else p) e) ∙ h

    pub each_tells : (op : Operator) → NoneLost losses (made_of op)
        → rows_lost tables op losses ≡ None
        → EachTells losses (made_column_loss op losses) (line tables op).made
        (operator_views tables op)
    each_tells nop h e = tt
    each_tells (create_table r cs) h e = (λ v m. absurd m, tt)
    each_tells (drop_table r) h e = tt
    each_tells (rename_table r t) h e = (
      one_tells _ _ (whole r) (whole_tells losses r (h r (inl refl)) _ _
          (of_input (r ∷ []) r (inl refl))),
      tt,
    )
    each_tells (copy_table r t) h e = (
      one_tells _ _ (whole r) (whole_tells losses r (h r (inl refl)) _ _
          (of_input (r ∷ []) r (inl refl))),
      tt,
    )
    each_tells (merge_table r s t) h e = (
      two_tell _ _ (whole r) (whole s)
          (whole_tells losses r (h r (inl refl)) _ _ (of_input (r ∷ s ∷ []) r (inl refl)))
          (whole_tells losses s (h s (inr (inl refl))) _ _
          (of_input (r ∷ s ∷ []) s (inr (inl refl)))),
      tt,
    )
    each_tells (partition_table r s c t) h e = (
      one_tells _ _ _ (met_tells losses r (h r (inl refl)) _ _
          (of_input (r ∷ []) r (inl refl)) c e),
      (
        one_tells _ _ _ (unmet_tells losses r (h r (inl refl)) _ _
            (of_input (r ∷ []) r (inl refl)) c e),
        tt,
      ),
    )
    each_tells (decompose_table r s xs t ys) h e = (
      one_tells _ _ (whole r) (whole_tells losses r (h r (inl refl)) _ _
          (of_input (r ∷ []) r (inl refl))),
      (
        one_tells _ _ (whole r) (whole_tells losses r (h r (inl refl)) _ _
            (of_input (r ∷ []) r (inl refl))),
        tt,
      ),
    )
    each_tells (join_table r s t c) h e =
        let k = or_none (first_loss (in_inputs losses (join_table r s t c))
        (common_names (columns_of tables r) (columns_of tables s)))
        (first_named (in_inputs losses (join_table r s t c)) (test_references c)) e in (
          one_tells _ _ (paired r (columns_of tables r) s (columns_of tables s) c)
              (paired_tells losses r s (h r (inl refl)) (h s (inr (inl refl)))
              (columns_of tables r) (columns_of tables s) c k.0 k.1 _),
          tt,
        )
    each_tells (add_column c t r) h e = (
      one_tells _ _ _ (computed_tells losses r (h r (inl refl)) _ _ c t t
          (λ n q g. other_column c n _ _ q g)
          (λ f g l n q k. same_value losses r f g l t (this_column c n _ _ q k))),
      tt,
    )
    each_tells (drop_column c r) h e = (
      one_tells _ _ (whole r) (whole_tells losses r (h r (inl refl)) _ _
          (of_input (r ∷ []) r (inl refl))),
      tt,
    )
    each_tells (rename_column b r c) h e = (
      one_tells _ _ _ (computed_tells losses r (h r (inl refl)) _ _ c (column (Atom 0) b)
          (column (Atom 0) b) (λ n q g. other_column c n _ _ q g)
          (λ f g l n q k. l 0 b (this_column c n _ _ q k))),
      tt,
    )
