use Rattle.cond_expr.specs.Seen.{test}
use Rattle.smo_ops_spec.specs.OneRow.{meets}
use Rattle.version_groups_changes.specs.PendingChanges.{CanBeHits, HavePendingHits, range_hits}
use Rattle.version_groups_changes.proofs.pending_row.PendingRows.range.Given as goal

abbrev pub invariant-loop-led : goal.invariant-loop-led
invariant-loop-led l = CanBeHits l.own (test l.cond) l.fn.from l.fn.to l.self
    → HavePendingHits (meets l.own (test l.cond)) l.self
    (range_hits (meets l.own (test l.cond)) l.range)
