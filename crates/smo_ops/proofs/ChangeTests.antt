-- The tests of an INSERT and of an UPDATE, part by part.
use Rattle.std.proofs.Common.{◌≡◌, ◌≤◌, ◌<◌, ◌+◌, ◌*◌, ◌^◌, ℕ, List, [], ◌∷◌, ◌++◌, length, refl}
use Rattle.std.proofs.Common.{sym, ap, ◌∙◌, arith}
use Rattle.std.specs.Prelude.{Some, None}
use Rattle.prima_base.specs.declared.value.Value.{Value}
use Rattle.prima_base.specs.declared.refusal.Refusal.{Refusal}
use Rattle.prima_base.specs.declared.refusal.Refusal.TheVariants.{NoColumn}
use Rattle.prima_base.specs.Columns.{Column, AreColumns}
use Rattle.cond_expr.specs.declared.expr.Expr.{Expr}
use Rattle.cond_expr.specs.Trees.{Test}
use Rattle.cond_expr.specs.Faults.{test_references, first_unknown}
use Rattle.smo_ops_types.specs.Changes.{insertion, update, sets_of}
use Rattle.smo_ops_spec.specs.First.{first_refusal}
use Rattle.smo_ops_spec.specs.OneRow.{own_kinds}
use Rattle.smo_ops_spec.specs.Checks.{Fault, AreSmall, pair_names, name_faults, missing_fault}
use Rattle.smo_ops_spec.specs.Checks.{cell_faults, reference_fault, set_references, set_faults}
use Rattle.smo_ops_spec.specs.Checks.{sets_nodes, test_fault, tests_after}
use Rattle.smo_ops_spec.proofs.Firsts.{first_after, first_before, first_at, first_later}
use Rattle.smo_ops_spec.proofs.Firsts.{first_alone}
use Rattle.smo_ops_spec.proofs.Firsts.{none_mapped}
use Rattle.smo_ops.proofs.CheckLaws.{known_both}
use Rattle.smo_ops_spec.proofs.FewNames.{few_names}

length_pairs : {X : Type 0} (pairs : List (List ℕ × X)) → length (pair_names pairs) ≡ length pairs
length_pairs [] = refl
length_pairs (p ∷ pairs) = (let h = length_pairs pairs in omega arith)

pub few_pairs : {X : Type 0} (t : List ℕ) (columns : List Column) (pairs : List (List ℕ × X))
    → AreColumns columns → first_refusal (name_faults t columns (pair_names pairs)) ≡ None
    → length pairs ≤ length columns
few_pairs t columns pairs a e = (let h = few_names t columns (pair_names pairs) a e in let k =
    length_pairs pairs in omega arith)

module _ (t : List ℕ) (columns : List Column) (cells : List (List ℕ × Value)) (at : ℕ) where
  pub insert_names : (r : Refusal) → first_refusal (name_faults t columns (pair_names cells))
      ≡ Some r → first_refusal (tests_after columns (insertion t cells) at) ≡ Some r
  insert_names r e = first_before (name_faults t columns (pair_names cells))
      (missing_fault t columns (pair_names cells) ∷ cell_faults columns at cells) r e

  pub insert_missing : first_refusal (name_faults t columns (pair_names cells)) ≡ None
      → (r : Refusal) → missing_fault t columns (pair_names cells) ≡ Some r
      → first_refusal (tests_after columns (insertion t cells) at) ≡ Some r
  insert_missing names r e = first_after (name_faults t columns (pair_names cells))
      (missing_fault t columns (pair_names cells) ∷ cell_faults columns at cells) names
      ∙ first_at (missing_fault t columns (pair_names cells)) (cell_faults columns at cells) r e

  pub insert_cells : first_refusal (name_faults t columns (pair_names cells)) ≡ None
      → missing_fault t columns (pair_names cells) ≡ None
      → first_refusal (tests_after columns (insertion t cells) at)
      ≡ first_refusal (cell_faults columns at cells)
  insert_cells names missing = first_after (name_faults t columns (pair_names cells))
      (missing_fault t columns (pair_names cells) ∷ cell_faults columns at cells) names
      ∙ first_later (missing_fault t columns (pair_names cells)) (cell_faults columns at cells)
      missing

pair_names_sets : (sets : List (List ℕ × Expr)) → pair_names (sets_of sets) ≡ pair_names sets
pair_names_sets [] = refl
pair_names_sets (s ∷ sets) = ap (λ names. s.0 ∷ names) (pair_names_sets sets)

-- few small trees have few nodes
small_nodes : (sets : List (List ℕ × Expr)) → AreSmall (sets_of sets)
    → sets_nodes (sets_of sets) ≤ 256 * length sets
small_nodes [] h = omega arith
small_nodes (s ∷ sets) h = (let k = small_nodes sets h.1 in let m = h.0 in omega arith)

module _ (t : List ℕ) (columns : List Column) (sets : List (List ℕ × Expr)) (c : Test)
    (at : ℕ) where
  names : List Fault
  names = name_faults t columns (pair_names sets)

  after_names : List Fault
  after_names = reference_fault columns (set_references (sets_of sets) ++ test_references c)
      ∷ (set_faults columns at (sets_of sets)
      ++ test_fault columns (at + sets_nodes (sets_of sets)) c ∷ [])

  whole : tests_after columns (update t (sets_of sets) c) at ≡ names ++ after_names
  unfolding names after_names
  whole = ap (λ ns. name_faults t columns ns ++ reference_fault columns
      (set_references (sets_of sets) ++ test_references c)
      ∷ (set_faults columns at (sets_of sets)
      ++ test_fault columns (at + sets_nodes (sets_of sets)) c ∷ [])) (pair_names_sets sets)

  pub update_names : (r : Refusal) → first_refusal (name_faults t columns (pair_names sets))
      ≡ Some r → first_refusal (tests_after columns (update t (sets_of sets) c) at) ≡ Some r
  unfolding names
  update_names r e = ap first_refusal whole ∙ first_before names after_names r e

  module _ (fine : first_refusal (name_faults t columns (pair_names sets)) ≡ None) where
    later : first_refusal (tests_after columns (update t (sets_of sets) c) at)
        ≡ first_refusal after_names
    unfolding names
    later = ap first_refusal whole ∙ first_after names after_names fine

    pub update_references : (r : Refusal) → reference_fault columns
        (set_references (sets_of sets) ++ test_references c) ≡ Some r
        → first_refusal (tests_after columns (update t (sets_of sets) c) at) ≡ Some r
    unfolding after_names
    update_references r e = later ∙ first_at (reference_fault columns
        (set_references (sets_of sets) ++ test_references c))
        (set_faults columns at (sets_of sets)
        ++ test_fault columns (at + sets_nodes (sets_of sets)) c ∷ []) r e

    pub update_room : AreColumns columns → length columns ≤ 32 → AreSmall (sets_of sets)
        → at < 2 ^ 31 → at + sets_nodes (sets_of sets) + 256 < 2 ^ 32
    update_room a n s p = (let h = few_pairs t columns sets a fine in let k = small_nodes sets s in
        omega arith)

    module _ (known : reference_fault columns (set_references (sets_of sets) ++ test_references c)
        ≡ None) where
      both : (first_unknown (own_kinds columns) (set_references (sets_of sets)) ≡ None)
          × (first_unknown (own_kinds columns) (test_references c) ≡ None)
      both = known_both columns (set_references (sets_of sets)) (test_references c)
          (none_mapped NoColumn (first_unknown (own_kinds columns)
          (set_references (sets_of sets) ++ test_references c)) known)

      pub sets_known : first_unknown (own_kinds columns) (set_references (sets_of sets)) ≡ None
      sets_known = both.0

      pub test_known : first_unknown (own_kinds columns) (test_references c) ≡ None
      test_known = both.1

      typed : first_refusal (tests_after columns (update t (sets_of sets) c) at)
          ≡ first_refusal (set_faults columns at (sets_of sets)
          ++ test_fault columns (at + sets_nodes (sets_of sets)) c ∷ [])
      unfolding after_names
      typed = later ∙ first_later (reference_fault columns
          (set_references (sets_of sets) ++ test_references c))
          (set_faults columns at (sets_of sets)
          ++ test_fault columns (at + sets_nodes (sets_of sets)) c ∷ []) known

      pub update_sets : (r : Refusal) → first_refusal (set_faults columns at (sets_of sets))
          ≡ Some r → first_refusal (tests_after columns (update t (sets_of sets) c) at) ≡ Some r
      update_sets r e = typed ∙ first_before (set_faults columns at (sets_of sets))
          (test_fault columns (at + sets_nodes (sets_of sets)) c ∷ []) r e

      pub update_test : (next : ℕ) → first_refusal (set_faults columns at (sets_of sets)) ≡ None
          → next ≡ at + sets_nodes (sets_of sets)
          → first_refusal (tests_after columns (update t (sets_of sets) c) at)
          ≡ test_fault columns next c
      update_test next e n = typed ∙ first_after (set_faults columns at (sets_of sets))
          (test_fault columns (at + sets_nodes (sets_of sets)) c ∷ []) e
          ∙ first_alone (test_fault columns (at + sets_nodes (sets_of sets)) c)
          ∙ ap (λ m. test_fault columns m c) (sym n)
