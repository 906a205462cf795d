use Rattle.std.proofs.Common.{◌++◌, List, map, ap, ◌∙◌, take_all, arith}
use Rattle.std.specs.List.{flat_map}
use Rattle.relations_spec.specs.Timed.{Entry}
use Rattle.prima_base.specs.declared.timed_row.TimedRow.{TimedRow}
use Rattle.prima_base.specs.declared.value.Value.{Value}
use Rattle.prima_base.specs.Timed.{entry_of, entries_of}
use Rattle.join_exec_spec.specs.Choosing.{paired}
use Rattle.join_exec_spec.specs.Keeping.{passing, borrowed_tests}
use Rattle.join_exec_spec.proofs.OneMore.{flat_more}
use Rattle.join_exec_spec.specs.BorrowedOutputs.{RowBorrows}
use Rattle.join_exec_levels.proofs.NearRows.{near_pairs, near_each, valid_piece}
use Rattle.join_exec_levels.proofs.RunLaws.{runs_pairs, run_valid, run_each}
use Rattle.join_exec_levels.proofs.step.put_runs.Goals as goal

pub put_group-requires-clause-rows : goal.put_group-requires-clause-rows
put_group-requires-clause-rows c =
    valid_piece c.args.choice.now.period c.run-item.result c.near.result.now c.near.ensures
    (run_valid c.args.runs.now c.loop-run.run-index c.run-item.result c.loop-run-test.true
    c.run-item.is c.requires.rows)

pub loop-run-preserved : goal.loop-run-preserved
loop-run-preserved c =
    let keep = passing c.args.columns.now (borrowed_tests c.args.tests.now) in
    let p : Entry (List Value) = entry_of c.args.choice.now in
    record {
      borrowed = λ which before own h k l. c.in_ok-put_group.ensures.borrowed which before own
          (c.loop-run.invariant.borrowed which before own h k l) k
          (near_each (RowBorrows which own) c.args.choice.now.period c.run-item.result
          c.near.result.now c.near.ensures
          (run_each (RowBorrows which own) c.args.runs.now c.loop-run.run-index c.run-item.result
          c.loop-run-test.true c.run-item.is l));
      rows = flat_more (flat_map (paired keep p)) entries_of c.args.runs.now c.loop-run.run-index
          c.run-item.result (entries_of c.args.into.now.items) (entries_of c.loop-run.into.items)
          (entries_of c.put_group.new.into.items)
          c.loop-run-test.true c.run-item.is c.loop-run.invariant.rows
          (c.in_ok-put_group.ensures.rows ∙ ap
          (λ (es : List (Entry (List Value))). entries_of c.loop-run.into.items ++ es)
          (near_pairs keep p c.run-item.result c.near.result.now c.near.ensures));
    }

pub returns-clause-rows : goal.returns-clause-rows
returns-clause-rows c =
    let f = paired (passing c.args.columns.now (borrowed_tests c.args.tests.now))
    (entry_of c.args.choice.now) in
    c.loop-run.invariant.rows
    ∙ ap (λ (runs : List (List TimedRow)). entries_of c.args.into.now.items
    ++ flat_map (flat_map f) (map entries_of runs))
    (take_all c.loop-run.run-index c.args.runs.now (omega arith))
    ∙ ap (λ (es : List (Entry (List Value))). entries_of c.args.into.now.items ++ es)
    (runs_pairs f c.args.runs.now)
