use Rattle.std.proofs.Common.{◌≡◌, ◌+◌, length}
use Rattle.join_exec.proofs.gathered_table.read_rest.Given as goal

abbrev pub invariant-rest : goal.invariant-rest
invariant-rest g l = l.steps + length l.cursor.unread
    ≡ l.initial.steps + length l.initial.cursor.unread

abbrev pub decreases-rest : goal.decreases-rest
decreases-rest g l = length l.cursor.unread
