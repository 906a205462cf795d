use Rattle.std.proofs.Common.{sym, ◌∙◌}
use Rattle.std.proofs.lemmas.Result.{err_from_is_err_and}
use Rattle.smo_ops_spec.proofs.Firsts.{tests_more, tests_stop}
use Rattle.temporal_lang_types.specs.Branches.{branch_of}
use Rattle.temporal_lang_spec.specs.Checking.{branch_counts}
use Rattle.temporal_lang.proofs.count.check_each_branch.Goals as goal

pub returns-in_err-check_branch : goal.returns-in_err-check_branch
returns-in_err-check_branch c =
    let p = err_from_is_err_and c.from_residual.result c.from_residual.ensures.1 in
    rw (p.1, p.2)
    (sym (c.loop-branch.invariant ∙ tests_stop branch_counts branch_of c.args.branches.now
    c.loop-branch.branch-index c.branch-item.result c.loop-branch-test.true c.branch-item.is _
    (sym c.in_err-check_branch.ensures)))

pub loop-branch-preserved : goal.loop-branch-preserved
loop-branch-preserved c =
    c.loop-branch.invariant
    ∙ tests_more branch_counts branch_of c.args.branches.now c.loop-branch.branch-index
    c.branch-item.result c.loop-branch-test.true c.branch-item.is
    (sym c.in_ok-check_branch.ensures)
