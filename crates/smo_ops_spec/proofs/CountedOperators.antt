-- What the counts of a command tell of its operator and its inverse.
use Rattle.std.proofs.Common.{◌≡◌, ◌≤◌, ◌<◌, ◌^◌, List, [], ◌∷◌, ◌++◌, length, take, sym, subst}
use Rattle.std.proofs.Common.{◌∙◌, arith}
use Rattle.std.specs.Prelude.{None}
use Rattle.std.specs.List.{flat_map}
use Rattle.std.proofs.lemmas.List.{take_all}
use Rattle.prima_base.specs.declared.refusal.What.TheVariants.{Inverse}
use Rattle.cond_expr.specs.Trees.{Tree, Test}
use Rattle.cond_expr.specs.Sizes.{nodes_of, test_nodes}
use Rattle.smo_ops_types.specs.Operators.{Operator, nop, create_table, drop_table, rename_table}
use Rattle.smo_ops_types.specs.Operators.{copy_table, merge_table, partition_table, decompose_table}
use Rattle.smo_ops_types.specs.Operators.{join_table, add_column, drop_column, rename_column}
use Rattle.smo_ops_types.specs.Commands.{evolving}
use Rattle.smo_ops_spec.specs.First.{first_refusal}
use Rattle.smo_ops_spec.specs.Counts.{at_most, tree_counts, test_counts, operator_counts}
use Rattle.smo_ops_spec.specs.Counts.{evolution_counts}
use Rattle.smo_ops_spec.specs.Counts.{first_excess}
use Rattle.smo_ops_spec.specs.After.{HasFewNodes, HaveFewNodes, AllHaveFewNodes}
use Rattle.smo_ops_spec.proofs.Firsts.{none_of_both, first_alone}
use Rattle.smo_ops_spec.proofs.SmallTrees.{fits, small_tree, small_test}

tree_fits : (t : Tree) → first_refusal (tree_counts t) ≡ None → nodes_of t < 2 ^ 32
tree_fits t e = let h = small_tree t e in omega arith

test_fits : (c : Test) → first_refusal (test_counts c) ≡ None → test_nodes c < 2 ^ 32
test_fits c e = let h = small_test c e in omega arith

operator_fits : (op : Operator) → first_refusal (operator_counts op) ≡ None → HasFewNodes op
operator_fits nop e = tt
operator_fits (create_table r cs) e = tt
operator_fits (drop_table r) e = tt
operator_fits (rename_table r t) e = tt
operator_fits (copy_table r t) e = tt
operator_fits (merge_table r s t) e = tt
operator_fits (partition_table r s c t) e = test_fits c e
operator_fits (decompose_table r s xs t ys) e = tt
operator_fits (join_table r s t c) e = test_fits c e
operator_fits (add_column c t r) e = tree_fits t e
operator_fits (drop_column c r) e = tt
operator_fits (rename_column b r c) e = tt

operators_fit : (ops : List Operator) → first_refusal (flat_map operator_counts ops) ≡ None
    → HaveFewNodes ops
operators_fit [] e = tt
operators_fit (op ∷ ops) e = (let h = none_of_both (operator_counts op)
    (flat_map operator_counts ops) e in (operator_fits op h.0, operators_fit ops h.1))

all_fit : (ops : List (List Operator)) → first_refusal (flat_map evolution_counts ops) ≡ None
    → AllHaveFewNodes ops
all_fit [] e = tt
all_fit (op ∷ ops) e = (let h = none_of_both (evolution_counts op)
    (flat_map evolution_counts ops) e in (operators_fit op h.0, all_fit ops h.1))

module _ (op : List Operator) (inverse : List (List Operator))
    (counted : first_excess (evolving op inverse) ≡ None) where
  both_parts : (first_refusal (evolution_counts op) ≡ None)
      × (first_refusal (flat_map evolution_counts (take 8 inverse)
      ++ at_most Inverse 8 (length inverse) ∷ []) ≡ None)
  both_parts = none_of_both (evolution_counts op)
      (flat_map evolution_counts (take 8 inverse) ++ at_most Inverse 8 (length inverse) ∷ []) counted

  inverse_parts : (first_refusal (flat_map evolution_counts (take 8 inverse)) ≡ None)
      × (first_refusal (at_most Inverse 8 (length inverse) ∷ []) ≡ None)
  inverse_parts = none_of_both (flat_map evolution_counts (take 8 inverse))
      (at_most Inverse 8 (length inverse) ∷ []) both_parts.1

  pub counted_operator : HaveFewNodes op
  counted_operator = operators_fit op both_parts.0

  pub counted_length : length inverse ≤ 8
  counted_length = fits Inverse 8 (length inverse)
      (sym (first_alone (at_most Inverse 8 (length inverse))) ∙ inverse_parts.1)

  pub counted_inverse : AllHaveFewNodes inverse
  counted_inverse = subst AllHaveFewNodes (take_all 8 inverse counted_length)
      (all_fit (take 8 inverse) inverse_parts.0)
