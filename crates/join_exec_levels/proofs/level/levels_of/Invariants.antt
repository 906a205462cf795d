use Rattle.std.proofs.Common.{◌≡◌, ◌+◌, ◌++◌, ◌<◌, ◌^◌, ℕ, List, length}
use Rattle.std.specs.List.{filter, sum_by}
use Rattle.relations_spec.specs.Timed.{Entry, held_at}
use Rattle.prima_base.specs.declared.value.Value.{Value}
use Rattle.cond_expr.specs.declared.expr.Column.{Column}
use Rattle.join_exec_spec.specs.Choosing.{complete_choices}
use Rattle.join_exec_spec.specs.Fitting.{Fit}
use Rattle.join_exec_spec.specs.Keeping.{meets_all, borrowed_tests}
use Rattle.join_exec_spec.specs.BorrowedOutputs.{BorrowedValues}
use Rattle.join_exec_levels.specs.declared.source.Source.{Source}
use Rattle.join_exec_levels.specs.Levels.{made_through, AreValidLevels, LevelsBorrow}
use Rattle.join_exec_levels.specs.Sources.{SourcesBorrow, held_of}
use Rattle.join_exec_levels.proofs.level.levels_of.Given as goal

abbrev pub invariant-sources : goal.invariant-sources
invariant-sources l = record {
  room : l.taken + sum_by (λ (s : Source). s.width) l.sources.items < 2 ^ 64;
  valid : AreValidLevels l.levels.items;
  borrowed : (which : BorrowedValues) → (all : List Column)
      → SourcesBorrow which all l.initial.sources.items
      → (before : List Column) × (after : List Column) × (all ≡ before ++ after)
      × LevelsBorrow which before l.levels.items × SourcesBorrow which after l.sources.items;
  wide : (ps : List (Entry (List Value))) → Fit 0 ps
      → Fit l.taken (made_through l.columns l.levels.items ps);
  joined : (ps : List (Entry (List Value))) → Fit 0 ps → (m : ℕ)
      → filter (meets_all l.columns (borrowed_tests l.parts))
      (complete_choices (held_at (made_through l.columns l.levels.items ps) m)
      (held_of l.sources.items m))
      ≡ filter (meets_all l.columns (borrowed_tests l.parts))
      (complete_choices (held_at ps m) (held_of l.initial.sources.items m));
}

abbrev pub decreases-sources : goal.decreases-sources
decreases-sources l = length l.sources.items
