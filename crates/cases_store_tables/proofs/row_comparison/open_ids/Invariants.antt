use Rattle.std.proofs.Common.{◌≡◌, ◌-◌, ◌++◌, drop}
use Rattle.relations_spec.specs.Spans.{forever}
use Rattle.history_store.specs.Change.{ids_from}
use Rattle.cases_store_tables.proofs.row_comparison.open_ids.Given as goal

abbrev pub invariant-loop-id : goal.invariant-loop-id
invariant-loop-id l = ids_from 0 (forever - 1) l.keys ≡ l.ids.items
    ++ ids_from l.id (forever - 1) (drop l.id l.keys)
