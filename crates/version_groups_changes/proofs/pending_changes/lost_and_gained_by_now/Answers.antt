use Rattle.std.proofs.Common.{[], ◌∷◌, ◌++◌, sym, ap, ◌∙◌}
use Rattle.std.specs.Prelude.{if◌then◌else◌}
use Rattle.smo_ops_spec.specs.OneRow.{Relation}
use Rattle.version_groups_changes.proofs.PendingWalks.{lost_more, gained_more}
use Rattle.version_groups_changes.proofs.pending_changes.lost_and_gained_by_now.Goals as goal

pub loop-row-preserved : goal.loop-row-preserved
loop-row-preserved c =
    let row = c.in-Some.row in
    let there = c.in-Some.there in
    record {
      lost = c.in_ok-put_row.ensures.lost ∙ ap
          (λ (rows : Relation). rows ++ (if there then [] else row ∷ [])) c.loop-row.invariant.lost
          ∙ sym (lost_more c.loop-row.yielded row there);
      gained = c.in_ok-put_row.ensures.gained
          ∙ ap (λ (rows : Relation). rows ++ (if there then row ∷ [] else []))
          c.loop-row.invariant.gained ∙ sym (gained_more c.loop-row.yielded row there);
    }
