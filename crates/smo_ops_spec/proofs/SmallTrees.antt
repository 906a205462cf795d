-- What the counts of a command tell of its trees.
use Rattle.std.proofs.Common.{◌≡◌, ◌≤◌, ℕ, Bool, true, [], ◌∷◌, refl, arith}
use Rattle.std.specs.Prelude.{None, nat_le}
use Rattle.prima_base.specs.declared.refusal.What.{What}
use Rattle.prima_base.specs.declared.refusal.What.TheVariants.{Nodes, Depth, Parts}
use Rattle.cond_expr.specs.Trees.{Tree, Test}
use Rattle.cond_expr.specs.Sizes.{nodes_of, depth_of, longest_of, test_nodes, test_depth}
use Rattle.cond_expr.specs.Sizes.{test_longest}
use Rattle.smo_ops_spec.specs.First.{first_refusal}
use Rattle.smo_ops_spec.specs.Counts.{at_most, tree_counts, test_counts}
use Rattle.smo_ops_spec.proofs.Firsts.{none_of_first, met}

pub fits : (what : What) (limit n : ℕ) → at_most what limit n ≡ None → n ≤ limit
fits what limit n e = step (nat_le n limit) refl
    (met {R = What × ℕ} (nat_le n limit) (what, limit) e)
  where
    step : (b : Bool) → nat_le n limit ≡ b → nat_le n limit ≡ true → n ≤ limit
    step b q h = grind (arith, h)

pub small_tree : (t : Tree) → first_refusal (tree_counts t) ≡ None → nodes_of t ≤ 256
small_tree t e = fits Nodes 256 (nodes_of t) (none_of_first (at_most Nodes 256 (nodes_of t))
    (at_most Depth 32 (depth_of t) ∷ at_most Parts 8 (longest_of t) ∷ []) e).0

pub small_test : (c : Test) → first_refusal (test_counts c) ≡ None → test_nodes c ≤ 256
small_test c e = fits Nodes 256 (test_nodes c)
    (none_of_first (at_most Nodes 256 (test_nodes c))
    (at_most Depth 32 (test_depth c) ∷ at_most Parts 8 (test_longest c) ∷ []) e).0
