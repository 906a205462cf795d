-- A condition is true just where each of its parts is, and what it selects of a row is what it says
-- of the row's atom.
use Rattle.std.proofs.Common.{◌≡◌, ℕ, Bool, true, false, List, refl, sym, ap, subst, ◌∙◌, inl, inr}
use Rattle.std.specs.Prelude.{◌==◌, ◌&&◌, pos, if◌then◌else◌}
use Rattle.std.proofs.Math.Path.{fun_ext}
use Rattle.relations_spec.specs.Sets.{In}
use Rattle.relations_spec.proofs.SetLaws.{in_left, in_right, in_append}
use Rattle.prima_base.specs.declared.value.Value.{Value}
use Rattle.prima_base.specs.declared.value.Value.TheVariants.{Int}
use Rattle.prima_base.specs.Columns.{Column}
use Rattle.schema_catalog.specs.Databases.{cell}
use Rattle.cond_expr.specs.declared.expr.Whose.TheVariants.{Atom}
use Rattle.cond_expr.specs.Trees.{Tree, column, constant, Test, never, always, compared, all_of}
use Rattle.cond_expr.specs.Trees.{some_of, fails, Tests, no_tests, a_test, fill_test}
use Rattle.cond_expr.specs.Values.{Cells, over, value, truth, all_true}
use Rattle.cond_expr.proofs.AtomLaws.{truth_for_atoms}
use Rattle.smo_ops_spec.specs.OneRow.{Row, own_cells, meets}
use Rattle.plain_answers_spec.specs.Choosing.{chosen_cell, choice_meets}
use Rattle.plain_answers_spec.specs.Reading.{said_of, IsPartOf}
use Rattle.cond_expr.specs.Parts.{parts_but_true as parts, all_parts_but_true as all_parts}

both_true : (a b : Bool) → (a && b) ≡ true → (a ≡ true) × (b ≡ true)
both_true true b e = (refl, e)
both_true false b e = absurd (cc)

and_true : (a b : Bool) → a ≡ true → b ≡ true → (a && b) ≡ true
and_true true b e f = f
and_true false b e f = absurd (cc)

module _ (at : Cells) where
  mutual
    pub part_true : (c t : Test) → truth at c ≡ true → In t (parts c) → truth at t ≡ true
    part_true never t e (inl m) = absurd (cc)
    part_true never t e (inr m) = absurd m
    part_true always t e m = absurd m
    part_true (compared o a b) t e (inl m) = subst (λ (x : Test). truth at x ≡ true) m e
    part_true (compared o a b) t e (inr m) = absurd m
    part_true (all_of cs) t e m = each_true cs t e m
    part_true (some_of cs) t e (inl m) = subst (λ (x : Test). truth at x ≡ true) m e
    part_true (some_of cs) t e (inr m) = absurd m
    part_true (fails c) t e (inl m) = subst (λ (x : Test). truth at x ≡ true) m e
    part_true (fails c) t e (inr m) = absurd m

    each_true : (cs : Tests) (t : Test) → all_true at cs ≡ true → In t (all_parts cs)
        → truth at t ≡ true
    each_true no_tests t e m = absurd m
    each_true (a_test c cs) t e m =
        let b = both_true (truth at c) (all_true at cs) e in
        elim (in_append t (parts c) (all_parts cs) m) [
          | inl i ↦ part_true c t b.0 i
          | inr i ↦ each_true cs t b.1 i
        ]

  mutual
    pub parts_true : (c : Test) → ((t : Test) → In t (parts c) → truth at t ≡ true)
        → truth at c ≡ true
    parts_true never h = h never (inl refl)
    parts_true always h = refl
    parts_true (compared o a b) h = h (compared o a b) (inl refl)
    parts_true (all_of cs) h = all_parts_true cs h
    parts_true (some_of cs) h = h (some_of cs) (inl refl)
    parts_true (fails c) h = h (fails c) (inl refl)

    all_parts_true : (cs : Tests) → ((t : Test) → In t (all_parts cs) → truth at t ≡ true)
        → all_true at cs ≡ true
    all_parts_true no_tests h = refl
    all_parts_true (a_test c cs) h =
        and_true (truth at c) (all_true at cs)
        (parts_true c (λ t m. h t (in_left t (parts c) (all_parts cs) m)))
        (all_parts_true cs (λ t m. h t (in_right t (parts c) (all_parts cs) m)))

-- of one atom of a choice, whose row this is
module _ (columns : List (List Column)) (rows : List Row) (i : ℕ) (cs : List Column) (row : Row)
    (here : (n : List ℕ) → chosen_cell columns rows i n ≡ cell cs row n) where
  abbrev at_own : ℕ → List ℕ → Value
  at_own j n = if 0 == j then cell cs row n else Int (pos 0)

  abbrev said : ℕ → List ℕ → Tree
  said j n = if 0 == j then column (Atom i) n else constant (Int (pos 0))

  cells_are : (j : ℕ) (n : List ℕ) → value (over (chosen_cell columns rows)) (said j n) ≡ at_own j n
  cells_are j n = step (0 == j)
    where
      step : (b : Bool) → value (over (chosen_cell columns rows))
          (if b then column (Atom i) n else constant (Int (pos 0)))
          ≡ (if b then cell cs row n else Int (pos 0))
      step true = here n
      step false = refl

  same_said : (t : Test) → choice_meets columns (fill_test (said_of i) t) rows ≡ meets cs t row
  same_said t =
      truth_for_atoms (chosen_cell columns rows) said t
      ∙ ap (λ (at : ℕ → List ℕ → Value). truth (over at) t)
      (fun_ext (λ j. fun_ext (λ n. cells_are j n)))

  -- a row of a choice that meets the condition meets what is a part of it
  pub part_met : (own c : Test) → IsPartOf i own c → choice_meets columns c rows ≡ true
      → meets cs own row ≡ true
  part_met own c part met =
      parts_true (own_cells cs row) own
      (λ t m. sym (same_said t) ∙ part_true (over (chosen_cell columns rows)) c
      (fill_test (said_of i) t) met (part t m))
