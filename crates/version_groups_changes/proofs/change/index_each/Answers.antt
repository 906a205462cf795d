use Rattle.std.proofs.Common.{ap, ◌∙◌}
use Rattle.history_store.specs.Store.{Store}
use Rattle.version_groups_changes.proofs.change.index_each.Goals as goal

pub index_asked-requires-clause-same : goal.index_asked-requires-clause-same
index_asked-requires-clause-same c = ap (λ (s : Store). s.columns) c.loop-change.invariant.same
    ∙ c.requires.same
