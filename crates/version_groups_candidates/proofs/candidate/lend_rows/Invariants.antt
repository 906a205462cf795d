use Rattle.std.proofs.Common.{ℕ, ◌<◌, ◌+◌}
use Rattle.relations_spec.specs.Spans.{forever}
use Rattle.cond_expr.specs.Seen.{test}
use Rattle.history_store.specs.Store.{AllBefore, relation_at}
use Rattle.smo_ops_spec.specs.OneRow.{meets}
use Rattle.version_groups_candidates.specs.Candidates.{HaveHits}
use Rattle.version_groups_candidates.proofs.candidate.lend_rows.Given as goal

abbrev pub invariant-loop-column : goal.invariant-loop-column
invariant-loop-column l = (m : ℕ) → m < forever → AllBefore l.store (m + 1)
    → HaveHits (meets l.own (test l.cond)) (relation_at l.store m) l.rows
