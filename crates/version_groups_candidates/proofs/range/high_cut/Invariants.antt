use Rattle.std.proofs.Common.{◌≡◌, drop}
use Rattle.cond_expr.specs.Seen.{test}
use Rattle.version_groups_candidates.specs.Ranges.{with_lead, high_cut}
use Rattle.version_groups_candidates.proofs.range.high_cut.Given as goal

abbrev pub invariant-loop-column : goal.invariant-loop-column
invariant-loop-column l = high_cut l.columns (test l.cond)
    ≡ with_lead l.values.items (high_cut (drop l.column-index l.columns) (test l.cond))
