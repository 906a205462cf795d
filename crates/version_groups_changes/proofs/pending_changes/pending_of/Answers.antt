use Rattle.smo_ops_types.specs.Changes.{change_of}
use Rattle.smo_ops_spec.specs.Effects.{relation_after}
use Rattle.smo_ops_spec.specs.Inserting.{relation_after_each}
use Rattle.smo_ops_spec.proofs.RelationLaws.{keeps_relation}
use Rattle.history_store.specs.Store.{relation_at}
use Rattle.version_groups_changes.specs.Changing.{borrowed_changes}
use Rattle.version_groups_changes.proofs.Applying.{accepted_next, applied_next}
use Rattle.version_groups_changes.proofs.pending_changes.pending_of.Goals as goal

pub loop-change-preserved : goal.loop-change-preserved
loop-change-preserved c =
    let i = c.loop-change.change-index in
    let x = c.change-item.result in
    let own = c.args.own.now in
    let changes = c.args.changes.now in
    let one = change_of x.now in
    let accepted = accepted_next changes i x c.loop-change-test.true c.change-item.is own
    c.loop-change.invariant.accepted in
    record {
      accepted = accepted.1;
      leads = λ m l h.
          let w = c.loop-change.invariant.leads m l h in (
            relation_after own one w.0,
            keeps_relation own one accepted.0.0 w.0 c.requires.columns w.1 accepted.0.1,
            c.in_ok-apply.ensures m w.0 l h w.1 w.2,
            applied_next changes i x c.loop-change-test.true c.change-item.is own
                (relation_after_each own (borrowed_changes changes)
                (relation_at c.args.store.now m)) w.0 w.3,
          );
    }
