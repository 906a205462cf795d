use Rattle.std.proofs.Common.{◌≡◌, ◌++◌, Bool, map, drop}
use Rattle.std.specs.Prelude.{◌&&◌}
use Rattle.std.specs.List.{filter}
use Rattle.std.specs.Map.{keys_of}
use Rattle.std.specs.Map.Iter.{deref_pair}
use Rattle.cond_expr.specs.Seen.{test}
use Rattle.history_store.specs.Cuts.{is_before}
use Rattle.smo_ops_spec.specs.OneRow.{Row, meets}
use Rattle.version_groups_changes.proofs.pending_row.put_all_pending.Given as goal

abbrev pub invariant-loop-row : goal.invariant-loop-row
invariant-loop-row l = l.hits.items ≡ l.fn.hits.items
    ++ map (drop l.skip) (keys_of (filter (λ (e : Row × Bool).
    is_before l.to e.0 && (e.1 && meets l.own (test l.cond) (drop l.skip e.0)))
    (map deref_pair l.yielded)))
