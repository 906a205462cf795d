-- The constants of the views of an operator are its own.
use Rattle.std.specs.Prelude.{ℕ, List, [], ◌∷◌, ◌++◌, map}
use Rattle.std.proofs.Common.{subst, inl, inr}
use Rattle.relations_spec.specs.Sets.{In}
use Rattle.relations_spec.proofs.SetLaws.{from_map, in_append}
use Rattle.prima_base.specs.Columns.{Column}
use Rattle.cond_expr.specs.Trees.{Tree, Test, never, always, compared, all_of, some_of, fails}
use Rattle.cond_expr.specs.Trees.{for_atoms}
use Rattle.cond_expr.specs.Parts.{parts_but_true}
use Rattle.piece_ir_spec.specs.Views.{out_of, whole}
use Rattle.piece_ir_spec.specs.Constants.{ValidInTree, ValidInTest, ValidInOuts, ValidInView}
use Rattle.piece_ir_spec.proofs.ValidConstants.{for_atoms_valid, fill_test_valid, some_part_valid}
use Rattle.piece_ir_spec.proofs.ValidConstants.{out_valid}
use Rattle.piece_ir_spec.specs.OperatorViews.{selected, computed, unmet, common_names, second_names}
use Rattle.piece_ir_spec.specs.OperatorViews.{from_second, in_both, shown_in, paired}

pub whole_constants : (r : List ℕ) → ValidInView (whole r)
whole_constants r = record { parts = λ c m. absurd m; outs = λ o m. absurd m }

pub selected_constants : (r : List ℕ) (tests : List Test)
    → ((c : Test) → In c tests → ValidInTest c) → ValidInView (selected r tests)
selected_constants r tests h = record { parts = h; outs = λ o m. absurd m }

pub parts_constants : (r : List ℕ) (c : Test) → ValidInTest c
    → ValidInView (selected r (parts_but_true c))
parts_constants r c h = selected_constants r (parts_but_true c) (λ t m. some_part_valid c t h m)

unmet_valid : (c : Test) → ValidInTest c → ValidInTest (unmet c)
unmet_valid never h = h
unmet_valid always h = h
unmet_valid (compared o a b) h = h
unmet_valid (all_of cs) h = h
unmet_valid (some_of cs) h = h
unmet_valid (fails c) h = h

pub unmet_constants : (r : List ℕ) (c : Test) → ValidInTest c
    → ValidInView (selected r (unmet c ∷ []))
unmet_constants r c h = selected_constants r (unmet c ∷ []) one
  where
    one : (t : Test) → In t (unmet c ∷ []) → ValidInTest t
    one t (inl e) = subst ValidInTest e (unmet_valid c h)
    one t (inr m) = absurd m

pub computed_constants : (r c : List ℕ) (t : Tree) → ValidInTree t → ValidInView (computed r c t)
computed_constants r c t h = record { parts = λ d m. absurd m; outs = one }
  where
    one : (o : List ℕ × Tree) → In o ((c, t) ∷ []) → ValidInTree o.1
    one o (inl e) = subst (λ (x : List ℕ × Tree). ValidInTree x.1) e h
    one o (inr m) = absurd m

second_outs : (names : List (List ℕ)) → ValidInOuts (map from_second names)
second_outs names o m = (let f = from_map from_second o names m in
    subst (λ (x : List ℕ × Tree). ValidInTree x.1) f.2 tt)

pub paired_constants : (r : List ℕ) (cs : List Column) (s : List ℕ) (ds : List Column) (c : Test)
    → ValidInTest c → ValidInView (paired r cs s ds c)
paired_constants r cs s ds c h = record { parts = each; outs = second_outs (second_names cs ds) }
  where
    outs : List (List ℕ × Tree)
    outs = map from_second (second_names cs ds)

    shown : ValidInTest (shown_in outs c)
    shown =
        fill_test_valid (for_atoms (λ i n. out_of outs n))
        (for_atoms_valid (λ i n. out_of outs n)
        (λ i n. out_valid outs n (second_outs (second_names cs ds)))) c h

    each : (t : Test) → In t (map in_both (common_names cs ds) ++ parts_but_true (shown_in outs c))
        → ValidInTest t
    each t m = elim (in_append t (map in_both (common_names cs ds))
        (parts_but_true (shown_in outs c)) m) [
          | inl i ↦ (let f = from_map in_both t (common_names cs ds) i in
              subst ValidInTest f.2 (tt, tt))
          | inr i ↦ some_part_valid (shown_in outs c) t shown i
        ]
