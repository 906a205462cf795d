use Rattle.std.proofs.Common.{◌≡◌, ◌++◌, ℕ, List, length}
use Rattle.std.specs.Vec.Iter.{into_iter_items, into_iter_len}
use Rattle.cond_expr.specs.Trees.{Tree, Test}
use Rattle.join_exec_spec.specs.Keeping.{borrowed_tests}
use Rattle.cond_expr.specs.Parts.{parts}
use Rattle.join_exec_spec.specs.Blocks.{answered}
use Rattle.join_exec_spec.specs.BorrowedOutputs.{BorrowedValues}
use Rattle.join_exec_engine.specs.declared.atom.Atom.{Atom}
use Rattle.join_exec_engine.specs.Atoms.{AtomsBorrow, blocks_of, AreNumbered}
use Rattle.join_exec_engine.proofs.own_part.pruned_atoms.Given as goal

abbrev pub invariant-loop-atom : goal.invariant-loop-atom
invariant-loop-atom l = record {
  whole : l.yielded ++ into_iter_items l.atom-iterator ≡ l.fn.atoms.items;
  count : into_iter_len l.atom-iterator ≡ length (into_iter_items l.atom-iterator);
  numbered : (rest : List Atom) → AreNumbered (l.yielded ++ rest)
      → AreNumbered (l.done.items ++ rest);
  borrowed : (which : BorrowedValues) → AtomsBorrow which l.yielded
      → AtomsBorrow which l.done.items;
  same : (outs : List Tree) (cond : Test) → borrowed_tests l.parts ≡ parts cond
      → (m : ℕ) (rest : List Atom) → AreNumbered (l.yielded ++ rest)
      → answered outs cond (blocks_of m (l.done.items ++ rest))
      ≡ answered outs cond (blocks_of m (l.yielded ++ rest));
}
