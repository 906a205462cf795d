use Rattle.prima_base.specs.Timed.{entry_of, entries_of}
use Rattle.join_exec_spec.specs.Choosing.{paired}
use Rattle.join_exec_spec.specs.Keeping.{passing, borrowed_tests}
use Rattle.join_exec_spec.specs.BorrowedOutputs.{RowBorrows}
use Rattle.join_exec_spec.proofs.BorrowedLaws.{each_at}
use Rattle.join_exec_spec.proofs.OneMore.{flat_more}
use Rattle.join_exec_spec.proofs.Tests.{valid_row}
use Rattle.join_exec_levels.proofs.step.put_group.Goals as goal

pub put_pair-requires-clause-row : goal.put_pair-requires-clause-row
put_pair-requires-clause-row c = valid_row c.args.rows.now c.loop-row.row-index c.row-item.result
    c.requires.rows c.loop-row-test.true c.row-item.is

pub loop-row-preserved : goal.loop-row-preserved
loop-row-preserved c = record {
  rows = flat_more (paired (passing c.args.columns.now (borrowed_tests c.args.tests.now))
      (entry_of c.args.choice.now)) entry_of c.args.rows.now c.loop-row.row-index c.row-item.result
      (entries_of c.args.into.now.items) (entries_of c.loop-row.into.items)
      (entries_of c.put_pair.new.into.items)
      c.loop-row-test.true c.row-item.is c.loop-row.invariant.rows c.in_ok-put_pair.ensures.rows;
  borrowed = λ which before own h k l. c.in_ok-put_pair.ensures.borrowed which before own
      (c.loop-row.invariant.borrowed which before own h k l) k
      (each_at (RowBorrows which own) c.args.rows.now c.loop-row.row-index c.row-item.result
      c.loop-row-test.true c.row-item.is l);
}
