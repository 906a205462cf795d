use Rattle.std.proofs.Common.{◌≡◌, ◌<◌, ◌+◌, ℕ, drop}
use Rattle.relations_spec.specs.Spans.{forever}
use Rattle.prima_base.specs.Columns.{IsRelation}
use Rattle.history_store.specs.Store.{AllBefore, relation_at}
use Rattle.smo_ops_spec.specs.Inserting.{relation_after_each}
use Rattle.smo_ops_spec.specs.OneRow.{Relation}
use Rattle.version_groups_changes.specs.Changing.{AreAccepted, borrowed_changes}
use Rattle.version_groups_changes.specs.PendingChanges.{LeadsTo}
use Rattle.version_groups_changes.proofs.pending_changes.pending_of.Given as goal

abbrev pub invariant-loop-change : goal.invariant-loop-change
invariant-loop-change l = record {
  accepted : AreAccepted l.own (borrowed_changes (drop l.change-index l.changes));
  leads : (m : ℕ) → m < forever → AllBefore l.store (m + 1) → (now : Relation)
      × IsRelation l.own now × LeadsTo l.pending (relation_at l.store m) now
      × (relation_after_each l.own (borrowed_changes l.changes) (relation_at l.store m)
      ≡ relation_after_each l.own (borrowed_changes (drop l.change-index l.changes))
      now);
}
