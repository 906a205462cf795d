use Rattle.std.proofs.Common.{◌≡◌, true, false, [], ◌∷◌, ◌++◌, map, sym, ap, ◌∙◌}
use Rattle.std.specs.Prelude.{◌&&◌}
use Rattle.prima_base.specs.Order.{shown}
use Rattle.cond_expr.specs.Seen.{test}
use Rattle.smo_ops_spec.specs.OneRow.{Row, meets}
use Rattle.version_groups_changes.specs.PendingChanges.{is_kept}
use Rattle.version_groups_changes.proofs.PendingLaws.{and_true}
use Rattle.version_groups_changes.proofs.PendingSteps.{left_out, put_after, no_first, no_second}
use Rattle.version_groups_changes.proofs.pending_changes.put_stored.Goals as goal

pub returns-then-not-branch : goal.returns-then-not-branch
returns-then-not-branch c =
    let row = map shown c.args.values.now in
    let passes = meets c.args.own.now (test c.args.cond.now) row in
    let kept = is_kept c.args.pending.now row in
    left_out (passes && kept) c.args.hits.now.items row
    (no_first passes kept (sym c.in_ok-row_meets.ensures ∙ c.if-not-branch.true))

pub returns-then-not-is_kept : goal.returns-then-not-is_kept
returns-then-not-is_kept c =
    let row = map shown c.args.values.now in
    let passes = meets c.args.own.now (test c.args.cond.now) row in
    let kept = is_kept c.args.pending.now row in
    let lost : kept ≡ false = ap (is_kept c.args.pending.now) (sym c.in_ok-row.ensures)
    ∙ sym c.is_kept.ensures ∙ c.if-not-is_kept.true in
    left_out (passes && kept) c.args.hits.now.items row (no_second passes kept lost)

pub returns : goal.returns
returns c =
    let row = map shown c.args.values.now in
    let passes = meets c.args.own.now (test c.args.cond.now) row in
    let kept = is_kept c.args.pending.now row in
    let stays : kept ≡ true = ap (is_kept c.args.pending.now) (sym c.in_ok-row.ensures)
    ∙ sym c.is_kept.ensures ∙ c.if-not-is_kept.false in
    c.in_ok-push.ensures.items
    ∙ ap (λ (r : Row). c.args.hits.now.items ++ r ∷ []) c.in_ok-row.ensures
    ∙ put_after (passes && kept) c.args.hits.now.items row
    (and_true passes kept (sym c.in_ok-row_meets.ensures ∙ c.if-not-branch.false) stays)
