use Rattle.std.proofs.Common.{◌≡◌, ◌++◌, take}
use Rattle.std.specs.Prelude.{◌&&◌}
use Rattle.std.specs.List.{filter}
use Rattle.relations_spec.specs.Sets.{In}
use Rattle.prima_base.specs.Columns.{IsRow}
use Rattle.cond_expr.specs.Seen.{test}
use Rattle.smo_ops_spec.specs.OneRow.{Row, meets}
use Rattle.version_groups_changes.specs.PendingChanges.{is_kept}
use Rattle.version_groups_changes.proofs.pending_changes.put_stored_hits.Given as goal

abbrev pub invariant-loop-at : goal.invariant-loop-at
invariant-loop-at g l = record {
  same : l.rows ≡ l.fn.rows;
  hits : ((row : Row) → In row l.fn.rows → IsRow l.own row)
      → l.hits.items ≡ l.fn.hits.items ++ filter
      (λ row. meets l.own (test l.cond) row && is_kept l.pending row) (take l.at l.fn.rows);
}
