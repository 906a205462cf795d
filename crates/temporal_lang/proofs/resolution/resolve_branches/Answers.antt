use Rattle.temporal_lang.proofs.FewLaws.{few_at, resolved_more}
use Rattle.temporal_lang.proofs.resolution.resolve_branches.Goals as goal

pub resolve_branch-requires : goal.resolve_branch-requires
resolve_branch-requires c = few_at c.args.branches.now c.loop-branch.branch-index
    c.branch-item.result c.requires c.loop-branch-test.true c.branch-item.is

pub loop-branch-preserved : goal.loop-branch-preserved
loop-branch-preserved c =
    resolved_more c.args.schema.now c.args.branches.now c.loop-branch.branch-index
    c.branch-item.result c.loop-branch-test.true c.branch-item.is
    c.loop-branch.resolved.items c.in_ok-resolve_branch.field-0 _ c.loop-branch.invariant
    c.in_ok-resolve_branch.ensures c.in_ok-push.ensures
