-- What of a command is too many: the first count, in written order, above its limit.
use Rattle.std.specs.Prelude.{ℕ, List, [], ◌∷◌, ◌++◌, length, take, nat_le, Option}
use Rattle.std.specs.List.{flat_map}
use Rattle.prima_base.specs.declared.refusal.What.{What}
use Rattle.prima_base.specs.declared.refusal.What.TheVariants.{Nodes, Depth, Parts, Changes}
use Rattle.prima_base.specs.declared.refusal.What.TheVariants.{Inverse}
use Rattle.prima_base.specs.Limits.{max_nodes, max_depth, max_parts, max_changes, max_inverse}
use Rattle.cond_expr.specs.Trees.{Tree, Test}
use Rattle.cond_expr.specs.Sizes.{nodes_of, depth_of, longest_of, test_nodes, test_depth}
use Rattle.cond_expr.specs.Sizes.{test_longest}
use Rattle.smo_ops_types.specs.Operators.{Operator, nop, create_table, drop_table, rename_table}
use Rattle.smo_ops_types.specs.Operators.{copy_table, merge_table, partition_table, decompose_table}
use Rattle.smo_ops_types.specs.Operators.{join_table, add_column, drop_column, rename_column}
use Rattle.smo_ops_types.specs.Changes.{PlainChange, insertion, deletion, update}
use Rattle.smo_ops_types.specs.Commands.{PlainBody, changing, evolving}
use Rattle.smo_ops_spec.specs.First.{unless, first_refusal}

-- what there is too many of, and its limit
abbrev pub Excess : Type 0
Excess = Option (What × ℕ)

abbrev pub at_most : What → ℕ → ℕ → Excess
at_most what limit count = unless (nat_le count limit) (what, limit)

-- of a tree: its nodes, then its levels, then the parts of its longest CONCAT
abbrev pub tree_counts : Tree → List Excess
tree_counts t = at_most Nodes max_nodes (nodes_of t) ∷ at_most Depth max_depth (depth_of t)
    ∷ at_most Parts max_parts (longest_of t) ∷ []

abbrev pub test_counts : Test → List Excess
test_counts c = at_most Nodes max_nodes (test_nodes c) ∷ at_most Depth max_depth (test_depth c)
    ∷ at_most Parts max_parts (test_longest c) ∷ []

abbrev pub set_counts : List (List ℕ × Tree) → List Excess
set_counts sets = flat_map (λ (s : List ℕ × Tree). tree_counts s.1) sets

abbrev pub change_counts : PlainChange → List Excess
change_counts (insertion t cells) = []
change_counts (deletion t c) = test_counts c
change_counts (update t sets c) = set_counts sets ++ test_counts c

abbrev pub operator_counts : Operator → List Excess
operator_counts nop = []
operator_counts (create_table r cs) = []
operator_counts (drop_table r) = []
operator_counts (rename_table r t) = []
operator_counts (copy_table r t) = []
operator_counts (merge_table r s t) = []
operator_counts (partition_table r s c t) = test_counts c
operator_counts (decompose_table r s xs t ys) = []
operator_counts (join_table r s t c) = test_counts c
operator_counts (add_column c e r) = tree_counts e
operator_counts (drop_column c r) = []
operator_counts (rename_column b r c) = []

abbrev pub evolution_counts : List Operator → List Excess
evolution_counts ops = flat_map operator_counts ops

-- a member too many stands where it begins, after those before it
abbrev pub body_counts : PlainBody → List Excess
body_counts (changing changes) = flat_map change_counts (take max_changes changes)
    ++ at_most Changes max_changes (length changes) ∷ []
body_counts (evolving op inverse) = evolution_counts op
    ++ (flat_map evolution_counts (take max_inverse inverse)
    ++ at_most Inverse max_inverse (length inverse) ∷ [])

abbrev pub first_excess : PlainBody → Excess
first_excess body = first_refusal (body_counts body)
