-- The view of a JOIN asks for nothing that is lost, where neither table is, nor a common column,
-- nor what the condition names.
use Rattle.std.proofs.Common.{◌≡◌, ℕ, zero, suc, Bool, true, false, List, [], ◌∷◌, ◌++◌, map, refl}
use Rattle.std.proofs.Common.{sym, ap, subst, ◌∙◌, inl, inr}
use Rattle.std.specs.Prelude.{Option, None, ◌&&◌, if◌then◌else◌}
use Rattle.std.specs.List.{list_all}
use Rattle.std.proofs.lemmas.List.Folds.{list_all-append}
use Rattle.relations_spec.proofs.SetLaws.{in_map}
use Rattle.prima_base.specs.declared.value.Value.{Value}
use Rattle.prima_base.specs.Order.{value_cmp}
use Rattle.prima_base.specs.OrderLaws.{same_is}
use Rattle.prima_base.specs.Columns.{Column}
use Rattle.cond_expr.specs.declared.expr.ColRef.{ColRef}
use Rattle.cond_expr.specs.declared.expr.CmpOp.TheVariants.{Eq}
use Rattle.cond_expr.specs.declared.expr.Whose.{Whose}
use Rattle.cond_expr.specs.declared.expr.Whose.TheVariants.{Free, Alias, Atom}
use Rattle.cond_expr.specs.Trees.{Tree, column, Test, for_atoms, Within}
use Rattle.cond_expr.specs.Values.{over, truth, agrees}
use Rattle.cond_expr.specs.Faults.{test_references}
use Rattle.cond_expr.specs.Parts.{parts_but_true}
use Rattle.cond_expr.proofs.ReferenceLaws.{test_within_each}
use Rattle.cond_expr.proofs.TreeLaws.{value_like, truth_like, test_within_fill}
use Rattle.smo_ops_spec.specs.OneRow.{same}
use Rattle.smo_ops_spec.specs.Losses.{Loss, first_loss}
use Rattle.piece_ir_spec.specs.Views.{out_of}
use Rattle.piece_ir_spec.specs.OperatorViews.{common_names, second_names, from_second, in_both}
use Rattle.piece_ir_spec.specs.OperatorViews.{shown_in, paired}
use Rattle.piece_ir_spec.proofs.TestLaws.{parts_hold}
use Rattle.piece_ir_spec.proofs.OneTable.{only_one}
use Rattle.smo_ops_versions_spec.specs.ColumnLosses.{Losses, table_loss, column_loss}
use Rattle.smo_ops_versions_spec.specs.LostNames.{first_named}
use Rattle.temporal_lang_losses_spec.proofs.AlikeChoices.{Alike, NoneLost}
use Rattle.temporal_lang_losses_spec.proofs.MadeFollow.{IfKnown}
use Rattle.smo_ops_versions_spec.proofs.LossMaps.{or_none, none_first}
use Rattle.temporal_lang_losses_spec.proofs.OneTells.{LikeAt}

module _ (losses : Losses) (r s : List ℕ) where
  -- the loss of a column in either table
  abbrev either : List ℕ → Option Loss
  either n = first_loss (λ (x : List ℕ). column_loss losses x n) (r ∷ s ∷ [])

  module _ (f g : ℕ → List ℕ → Value) (like : Alike losses (r ∷ s ∷ []) f g) where
    in_first : (n : List ℕ) → either n ≡ None → f 0 n ≡ g 0 n
    in_first n e = like zero n (none_first (λ x. column_loss losses x n) (r ∷ s ∷ []) e r
        (inl refl))

    in_second : (n : List ℕ) → either n ≡ None → f 1 n ≡ g 1 n
    in_second n e = like (suc zero) n
        (none_first (λ x. column_loss losses x n) (r ∷ s ∷ []) e s (inr (inl refl)))

    out_like : (names : List (List ℕ)) (n : List ℕ) → either n ≡ None
        → Within (LikeAt f g) (out_of (map from_second names) n)
    out_like [] n e = in_first n e
    out_like (m ∷ names) n e = step (same m n) refl (out_like names n e)
      where
        step : (b : Bool) → same m n ≡ b
            → Within (LikeAt f g) (out_of (map from_second names) n)
            → Within (LikeAt f g) (if b then column (Atom 1) m
            else out_of (map from_second names) n)
        step true q more = subst (λ (x : List ℕ). f 1 x ≡ g 1 x) (sym (same_is m n q))
            (in_second n e)
        step false q more = more

    commons_like : (names : List (List ℕ)) → first_loss either names ≡ None
        → list_all (truth (over f)) (map in_both names)
        ≡ list_all (truth (over g)) (map in_both names)
    commons_like [] e = refl
    commons_like (n ∷ names) e =
        let h = or_none (either n) (first_loss either names) e in
        ap (λ (v : Value). agrees Eq (value_cmp v (f 1 n))
        && list_all (truth (over f)) (map in_both names)) (in_first n h.0)
        ∙ ap (λ (v : Value). agrees Eq (value_cmp (g 0 n) v)
        && list_all (truth (over f)) (map in_both names)) (in_second n h.0)
        ∙ ap (λ (b : Bool). agrees Eq (value_cmp (g 0 n) (g 1 n)) && b) (commons_like names h.1)

    module _ (names : List (List ℕ)) where
      abbrev outs : List (List ℕ × Tree)
      outs = map from_second names

      filled_like : (w : Whose) (n : List ℕ) → either n ≡ None
          → Within (LikeAt f g) (for_atoms (λ i m. out_of outs m) w n)
      filled_like Free n e = refl
      filled_like (Alias x) n e = refl
      filled_like (Atom i) n e = out_like names n e

      shown_like : (c : Test) → first_named either (test_references c) ≡ None
          → truth (over f) (shown_in outs c) ≡ truth (over g) (shown_in outs c)
      shown_like c e = truth_like (LikeAt f g) (over f) (over g) (λ w n q. q) (shown_in outs c)
          (test_within_fill (λ w n. either n ≡ None) (LikeAt f g)
          (for_atoms (λ i m. out_of outs m)) filled_like c
          (test_within_each (λ w n. either n ≡ None) c (λ x m.
          none_first either _ e x.name (in_map (λ (y : ColRef). y.name) x (test_references c) m))))

  module _ (first : table_loss losses r ≡ None) (second : table_loss losses s ≡ None)
      (cs ds : List Column) (c : Test)
      (commons : first_loss either (common_names cs ds) ≡ None)
      (named : first_named either (test_references c) ≡ None) (columns : List Column) where
    both_found : NoneLost losses (r ∷ s ∷ [])
    both_found n (inl e) = subst (λ (x : List ℕ). table_loss losses x ≡ None) e first
    both_found n (inr m) = subst (λ (x : List ℕ). table_loss losses x ≡ None) (only_one s n m)
        second

    abbrev pub seconds : List (List ℕ)
    seconds = second_names cs ds

    abbrev pub shown_parts : List Test
    shown_parts = parts_but_true (shown_in (map from_second seconds) c)

    parts_like : (f g : ℕ → List ℕ → Value) → Alike losses (r ∷ s ∷ []) f g
        → list_all (truth (over f)) (map in_both (common_names cs ds) ++ shown_parts)
        ≡ list_all (truth (over g)) (map in_both (common_names cs ds) ++ shown_parts)
    parts_like f g l =
        list_all-append (truth (over f)) (map in_both (common_names cs ds)) shown_parts
        ∙ ap (λ (b : Bool). b && list_all (truth (over f)) shown_parts)
        (commons_like f g l (common_names cs ds) commons)
        ∙ ap (λ (b : Bool). list_all (truth (over g)) (map in_both (common_names cs ds)) && b)
        (parts_hold (over f) (shown_in (map from_second seconds) c)
        ∙ shown_like f g l seconds c named
        ∙ sym (parts_hold (over g) (shown_in (map from_second seconds) c)))
        ∙ sym (list_all-append (truth (over g)) (map in_both (common_names cs ds)) shown_parts)

    pub paired_tells : IfKnown losses either columns (paired r cs s ds c) (map from_second seconds)
    paired_tells = record {
      there = both_found;
      parts = parts_like;
      shown = λ f g l n m e. value_like (LikeAt f g) (over f) (over g) (λ w x q. q)
          (out_of (map from_second seconds) n) (out_like f g l seconds n e);
    }
