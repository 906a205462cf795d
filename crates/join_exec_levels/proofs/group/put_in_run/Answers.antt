use Rattle.std.proofs.Common.{◌≡◌, ◌+◌, ◌-◌, List, length, ap, ◌∙◌, arith}
use Rattle.std.specs.Prelude.{slice_set}
use Rattle.std.proofs.lemmas.Result.{on_ok_weaker}
use Rattle.prima_base.specs.declared.timed_row.TimedRow.{TimedRow}
use Rattle.join_exec_levels.specs.Grouping.{rows_of_runs}
use Rattle.join_exec_levels.proofs.RunLaws.{last_longer}
use Rattle.join_exec_levels.proofs.group.put_in_run.Goals as goal

pub returns-then-takes : goal.returns-then-takes
returns-then-takes c =
    let last : (c.len-count.result - 1) + 1 ≡ length c.args.runs.now.items =
    (let many = c.len-count.ensures in let some = c.if-count-gt0.true in
    omega (arith, many, some)) in
    on_ok_weaker c.push.result
    (λ q. ap (λ (run : List TimedRow). rows_of_runs
    (slice_set c.args.runs.now.items (c.len-count.result - 1) run)) q
    ∙ last_longer c.args.runs.now.items (c.len-count.result - 1) c.index_mut.result.now
    c.args.row last c.index_mut.ensures.value)
    c.push.ensures
