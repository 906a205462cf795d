use Rattle.std.proofs.Common.{◌≡◌, ◌+◌, length, drop}
use Rattle.join_exec.specs.Walking.{unread}
use Rattle.join_exec.proofs.gathered_table.read_all.Given as goal

abbrev pub invariant-loop-k : goal.invariant-loop-k
invariant-loop-k g l = record {
  long : length l.cursors ≡ length l.initial.cursors;
  rest : drop l.k l.cursors ≡ drop l.k l.initial.cursors;
  count : l.steps + unread (drop l.k l.initial.cursors)
      ≡ l.initial.steps + unread l.initial.cursors;
}
