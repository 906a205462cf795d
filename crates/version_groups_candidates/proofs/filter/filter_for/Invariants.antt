use Rattle.cond_expr.specs.Seen.{test}
use Rattle.version_groups_candidates.specs.Filters.{IsFilter}
use Rattle.version_groups_candidates.proofs.filter.filter_for.Given as goal

abbrev pub invariant-loop-column : goal.invariant-loop-column
invariant-loop-column l = IsFilter l.columns (test l.cond) l.filter.items
