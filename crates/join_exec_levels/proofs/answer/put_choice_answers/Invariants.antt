use Rattle.std.proofs.Common.{◌≡◌, ◌++◌, map, take}
use Rattle.prima_base.specs.Timed.{entries_of}
use Rattle.cond_expr.specs.Seen.{tree, test}
use Rattle.join_exec_spec.specs.BorrowedOutputs.{BorrowedValues, RowsBorrow, AllStayBorrowed}
use Rattle.join_exec_spec.specs.Answering.{answers}
use Rattle.join_exec_levels.proofs.answer.put_choice_answers.Given as goal

abbrev pub invariant-loop-choice : goal.invariant-loop-choice
invariant-loop-choice l = record {
  rows : entries_of l.rows.items ≡ entries_of l.initial.rows.items
      ++ answers l.columns (map tree l.outs) (test l.cond)
      (entries_of (take l.choice-index l.choices));
  borrowed : (which : BorrowedValues) → AllStayBorrowed which (map tree l.outs) l.initial.rows.items
      → RowsBorrow which l.columns l.choices → AllStayBorrowed which (map tree l.outs) l.rows.items;
}
