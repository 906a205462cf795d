use Rattle.std.proofs.Common.{◌≡◌, ◌++◌, ℕ, true, List, [], map, take, length}
use Rattle.std.specs.List.{flat_map}
use Rattle.relations_spec.specs.Spans.{covers}
use Rattle.relations_spec.specs.Timed.{held_at, at}
use Rattle.prima_base.specs.Order.{row_cmp}
use Rattle.prima_base.specs.Timed.{entries_of, rows_at}
use Rattle.cond_expr.specs.Seen.{tree, test}
use Rattle.cond_expr.specs.declared.expr.Column.{Column}
use Rattle.join_exec_spec.specs.BorrowedOutputs.{BorrowedValues, RowsBorrow, AllStayBorrowed}
use Rattle.join_exec_levels.specs.Levels.{LevelBorrows, LevelsBorrow}
use Rattle.join_exec_levels.proofs.LevelLaws.{of_choice}
use Rattle.join_exec_levels.proofs.level.+answer_levels.Given as goal

abbrev pub decreases-answer_levels : goal.decreases-answer_levels
decreases-answer_levels l = length l.levels.now

abbrev pub invariant-loop-choice : goal.invariant-loop-choice
invariant-loop-choice l = record {
  borrowed : (which : BorrowedValues) → (before : List Column) → (own : List Column)
      → (after : List Column)
      → l.columns ≡ (before ++ own) ++ after
      → AllStayBorrowed which (map tree l.outs) l.initial.answered.rows.items
      → RowsBorrow which before l.choices → LevelBorrows which own l.level
      → LevelsBorrow which after l.rest
      → AllStayBorrowed which (map tree l.outs) l.answered.rows.items;
  rows : (m : ℕ) → covers l.slice m ≡ true
      → rows_at l.answered.rows.items m ≡ at row_cmp
      (entries_of l.initial.answered.rows.items
      ++ flat_map (of_choice l.columns (map tree l.outs) (test l.cond) l.level l.rest)
      (entries_of (take l.choice-index l.choices))) m;
  inside : (m : ℕ) → held_at (entries_of l.choices) m ≡ []
      → rows_at l.initial.answered.rows.items m ≡ [] → rows_at l.answered.rows.items m ≡ [];
}
