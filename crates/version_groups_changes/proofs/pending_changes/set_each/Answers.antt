use Rattle.std.proofs.Common.{List, [], ◌∷◌, ◌++◌, sym, ap, ◌∙◌, append_assoc}
use Rattle.std.specs.Map.{lookup}
use Rattle.std.specs.BTreeMap.{is_at}
use Rattle.std.specs.Vec.Iter.{into_iter_items}
use Rattle.relations_spec.specs.Sets.{has}
use Rattle.prima_base.specs.Order.{row_cmp}
use Rattle.history_store.specs.Store.{relation_at}
use Rattle.smo_ops_spec.specs.OneRow.{Row}
use Rattle.version_groups_changes.specs.PendingChanges.{told}
use Rattle.version_groups_changes.proofs.PendingWalks.{put_more}
use Rattle.version_groups_changes.proofs.pending_changes.set_each.Goals as goal

pub loop-row-preserved : goal.loop-row-preserved
loop-row-preserved c = record {
  left = c.loop-row.invariant.left ∙ ap (λ (xs : List Row). c.loop-row.yielded ++ xs)
      c.in-Some.ensures.steps.0
      ∙ sym (append_assoc c.loop-row.yielded (c.in-Some.row ∷ [])
      (into_iter_items c.next.new.self));
  put = λ m l h q. put_more q c.in-Some.row c.loop-row.yielded
      (told (has row_cmp q (relation_at c.args.store.now m)) c.args.there)
      (lookup (is_at (row_cmp q)) c.args.pending.now)
      (lookup (is_at (row_cmp q)) c.loop-row.pending)
      (lookup (is_at (row_cmp q)) c.set_row.new.pending)
      (c.loop-row.invariant.put m l h q) (c.in_ok-set_row.ensures m l h q);
}
