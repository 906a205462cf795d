use Rattle.std.proofs.Common.{◌≡◌}
use Rattle.std.specs.Prelude.{slice_range}
use Rattle.time_aggregate.specs.Turns.{turns_from}
use Rattle.time_aggregate.proofs.turn.unsorted_turns.Given as goal

abbrev pub invariant-loop-place : goal.invariant-loop-place
invariant-loop-place l = l.turns.items ≡ turns_from l.start
    (slice_range l.rows.items l.start l.place)
