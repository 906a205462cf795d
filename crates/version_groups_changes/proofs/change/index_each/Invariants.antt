use Rattle.std.proofs.Common.{◌≡◌, ◌≤◌}
use Rattle.version_groups_changes.proofs.change.index_each.Given as goal

abbrev pub invariant-loop-change : goal.invariant-loop-change
invariant-loop-change l = record {
  same : l.store ≡ record l.initial.store { spare = l.store.spare; indexed = l.store.indexed };
  spare : l.initial.store.spare ≤ l.store.spare;
}
