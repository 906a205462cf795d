use Rattle.std.proofs.Common.{◌≡◌, ℕ, length}
use Rattle.std.specs.List.{sum_by}
use Rattle.join_exec_levels.specs.declared.source.Source.{Source}
use Rattle.join_exec_spec.specs.Blocks.{rows_of}
use Rattle.join_exec_spec.specs.BorrowedOutputs.{BorrowedValues}
use Rattle.join_exec_engine.proofs.order.taken_apart.Given as goal
use Rattle.join_exec_levels.specs.Sources.{SourcesBorrow, relations_of}
use Rattle.join_exec_engine.specs.Atoms.{AtomsBorrow, columns_of_atoms, blocks_of}

abbrev pub invariant-loop-atom : goal.invariant-loop-atom
invariant-loop-atom l = record {
  types : l.types.items ≡ columns_of_atoms l.yielded;
  rows : (m : ℕ) → relations_of l.sources.items m ≡ rows_of (blocks_of m l.yielded);
  widths : sum_by (λ (s : Source). s.width) l.sources.items ≡ length l.types.items;
  borrowed : (which : BorrowedValues) → AtomsBorrow which l.yielded
      → SourcesBorrow which l.types.items l.sources.items;
}
