use Rattle.std.proofs.Common.{◌≡◌, ◌++◌, ℕ, length}
use Rattle.cond_expr.specs.Trees.{Tree, Test}
use Rattle.std.specs.Prelude.{List}
use Rattle.join_exec_spec.specs.Blocks.{answered}
use Rattle.join_exec_spec.specs.BorrowedOutputs.{BorrowedValues}
use Rattle.join_exec_engine.proofs.order.in_order.Given as goal
use Rattle.join_exec_engine.specs.Atoms.{AtomsBorrow, blocks_of, AreNumbered}

abbrev pub invariant-atoms : goal.invariant-atoms
invariant-atoms l = record {
  numbered : AreNumbered l.left.items;
  same : (outs : List Tree) (cond : Test) (m : ℕ)
      → answered outs cond (blocks_of m l.done.items ++ blocks_of m l.left.items)
      ≡ answered outs cond (blocks_of m l.initial.left.items);
  borrowed : (which : BorrowedValues) → AtomsBorrow which l.initial.left.items
      → AtomsBorrow which l.done.items
      × AtomsBorrow which l.left.items;
}

abbrev pub decreases-atoms : goal.decreases-atoms
decreases-atoms l = length l.left.items
