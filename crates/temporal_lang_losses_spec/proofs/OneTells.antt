-- Views of one table ask for nothing that is lost, where the table is not, nor what they name of
-- it.
use Rattle.std.proofs.Common.{◌≡◌, ℕ, zero, suc, Bool, true, false, List, [], ◌∷◌, refl, sym, ap}
use Rattle.std.proofs.Common.{subst, ◌∙◌}
use Rattle.std.specs.Prelude.{Option, None, ◌&&◌, not, if◌then◌else◌}
use Rattle.std.specs.List.{list_all}
use Rattle.relations_spec.proofs.SetLaws.{in_map}
use Rattle.prima_base.specs.declared.value.Value.{Value}
use Rattle.prima_base.specs.Columns.{Column}
use Rattle.cond_expr.specs.declared.expr.ColRef.{ColRef}
use Rattle.cond_expr.specs.declared.expr.Whose.{Whose}
use Rattle.cond_expr.specs.declared.expr.Whose.TheVariants.{Free, Alias, Atom}
use Rattle.cond_expr.specs.Trees.{Tree, column, Test}
use Rattle.cond_expr.specs.Values.{over, value, truth}
use Rattle.cond_expr.specs.Faults.{references, test_references}
use Rattle.cond_expr.specs.Parts.{parts_but_true}
use Rattle.cond_expr.proofs.ReferenceLaws.{Each, within_each, test_within_each}
use Rattle.cond_expr.proofs.TreeLaws.{value_like, truth_like}
use Rattle.smo_ops_spec.specs.OneRow.{same}
use Rattle.smo_ops_spec.specs.Losses.{Loss}
use Rattle.piece_ir_spec.specs.Views.{whole}
use Rattle.piece_ir_spec.specs.OperatorViews.{selected, computed, unmet}
use Rattle.piece_ir_spec.proofs.TestLaws.{parts_hold, unmet_fails}
use Rattle.piece_ir_spec.proofs.OneTable.{only_one}
use Rattle.smo_ops_versions_spec.specs.ColumnLosses.{Losses, table_loss, column_loss}
use Rattle.smo_ops_versions_spec.specs.LostNames.{first_named}
use Rattle.temporal_lang_losses_spec.proofs.AlikeChoices.{Alike, NoneLost}
use Rattle.temporal_lang_losses_spec.proofs.MadeFollow.{IfKnown}
use Rattle.smo_ops_versions_spec.proofs.LossMaps.{none_first}

-- what the references to columns that are not lost stand for is alike
abbrev pub LikeAt : (ℕ → List ℕ → Value) → (ℕ → List ℕ → Value) → Whose → List ℕ → Type 0
LikeAt f g w n = over f w n ≡ over g w n

module _ (losses : Losses) (r : List ℕ) where
  at_reference : (f g : ℕ → List ℕ → Value) → Alike losses (r ∷ []) f g → (w : Whose) (n : List ℕ)
      → column_loss losses r n ≡ None → LikeAt f g w n
  at_reference f g l Free n e = refl
  at_reference f g l (Alias x) n e = refl
  at_reference f g l (Atom zero) n e = l zero n e
  at_reference f g l (Atom (suc i)) n e = l (suc i) n refl

  at_references : (f g : ℕ → List ℕ → Value) → Alike losses (r ∷ []) f g → (refs : List ColRef)
      → first_named (column_loss losses r) refs ≡ None → Each (LikeAt f g) refs
  at_references f g l refs e x m = at_reference f g l x.whose x.name
      (none_first (column_loss losses r) _ e x.name (in_map (λ (y : ColRef). y.name) x refs m))

  pub same_value : (f g : ℕ → List ℕ → Value) → Alike losses (r ∷ []) f g → (t : Tree)
      → first_named (column_loss losses r) (references t) ≡ None
      → value (over f) t ≡ value (over g) t
  same_value f g l t e = value_like (LikeAt f g) (over f) (over g) (λ w n q. q) t
      (within_each (LikeAt f g) t (at_references f g l (references t) e))

  pub same_truth : (f g : ℕ → List ℕ → Value) → Alike losses (r ∷ []) f g → (c : Test)
      → first_named (column_loss losses r) (test_references c) ≡ None
      → truth (over f) c ≡ truth (over g) c
  same_truth f g l c e = truth_like (LikeAt f g) (over f) (over g) (λ w n q. q) c
      (test_within_each (LikeAt f g) c (at_references f g l (test_references c) e))

  module _ (found : table_loss losses r ≡ None) (lost : List ℕ → Option Loss)
      (columns : List Column) where
    one_found : NoneLost losses (r ∷ [])
    one_found n m = subst (λ (x : List ℕ). table_loss losses x ≡ None) (only_one r n m) found

    -- the table's rows, of which some are picked
    pub picked_tells : ((n : List ℕ) → lost n ≡ None → column_loss losses r n ≡ None)
        → (tests : List Test)
        → ((f g : ℕ → List ℕ → Value) → Alike losses (r ∷ []) f g
        → list_all (truth (over f)) tests ≡ list_all (truth (over g)) tests)
        → IfKnown losses lost columns (selected r tests) []
    picked_tells is tests like = record {
      there = one_found;
      parts = like;
      shown = λ f g l n m e. l zero n (is n e);
    }

    pub whole_tells : ((n : List ℕ) → lost n ≡ None → column_loss losses r n ≡ None)
        → IfKnown losses lost columns (whole r) []
    whole_tells is = picked_tells is [] (λ f g l. refl)

    pub met_tells : ((n : List ℕ) → lost n ≡ None → column_loss losses r n ≡ None) → (c : Test)
        → first_named (column_loss losses r) (test_references c) ≡ None
        → IfKnown losses lost columns (selected r (parts_but_true c)) []
    met_tells is c e = picked_tells is (parts_but_true c) (λ f g l. parts_hold (over f) c
        ∙ same_truth f g l c e ∙ sym (parts_hold (over g) c))

    pub unmet_tells : ((n : List ℕ) → lost n ≡ None → column_loss losses r n ≡ None) → (c : Test)
        → first_named (column_loss losses r) (test_references c) ≡ None
        → IfKnown losses lost columns (selected r (unmet c ∷ [])) []
    unmet_tells is c e = picked_tells is (unmet c ∷ []) (λ f g l.
        ap (λ (b : Bool). b && true)
        (unmet_fails (over f) c ∙ ap not (same_truth f g l c e) ∙ sym (unmet_fails (over g) c)))

    -- one column more
    pub computed_tells : (c : List ℕ) (t u : Tree)
        → ((n : List ℕ) → same c n ≡ false → lost n ≡ None → column_loss losses r n ≡ None)
        → ((f g : ℕ → List ℕ → Value) → Alike losses (r ∷ []) f g → (n : List ℕ)
        → same c n ≡ true → lost n ≡ None → value (over f) t ≡ value (over g) u)
        → IfKnown losses lost columns (computed r c t) ((c, u) ∷ [])
    computed_tells c t u is like = record {
      there = one_found;
      parts = λ f g l. refl;
      shown = λ f g l n m e. step f g l n e (same c n) refl;
    }
      where
        step : (f g : ℕ → List ℕ → Value) → Alike losses (r ∷ []) f g → (n : List ℕ)
            → lost n ≡ None → (b : Bool) → same c n ≡ b
            → value (over f) (if b then t else column (Atom 0) n)
            ≡ value (over g) (if b then u else column (Atom 0) n)
        step f g l n e true q = like f g l n q e
        step f g l n e false q = l zero n (is n q e)
