use Rattle.std.proofs.Common.{ℕ, ◌<◌, ◌^◌}
use Rattle.std.specs.Prelude.{slice_range}
use Rattle.relations_spec.specs.Timed.{held_at}
use Rattle.prima_base.specs.Timed.{entries_of}
use Rattle.time_aggregate.specs.Aggregates.{groups}
use Rattle.prima_base.specs.Groups.{groups_shown}
use Rattle.time_aggregate.specs.Turns.{rows_shown}
use Rattle.time_aggregate.proofs.Sweeping.{Swept}
use Rattle.time_aggregate.proofs.sweep.told_of.Given as goal

abbrev pub invariant-loop-i : goal.invariant-loop-i
invariant-loop-i l = (l.since < 2 ^ 64) × Swept (λ (m : ℕ). groups l.group l.items
    (held_at (entries_of (slice_range l.rows.items l.start l.end)) m)) l.items
    (rows_shown l.rows.items) l.turns.items l.i l.since l.held (groups_shown l.listed.items)
