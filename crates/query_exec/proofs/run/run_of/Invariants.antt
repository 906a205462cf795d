use Rattle.std.proofs.Common.{◌≡◌, take}
use Rattle.query_exec.specs.Runs.{IsRun}
use Rattle.query_exec.proofs.run.run_of.Given as goal

abbrev pub invariant-loop-next : goal.invariant-loop-next
invariant-loop-next l = record {
  count : l.count ≡ l.next-index;
  run : IsRun l.groups l.first (take l.next-index l.rest) l.period;
}
