use Rattle.std.proofs.Common.{◌∙◌}
use Rattle.std.proofs.lemmas.Result.{err_from_is_err_and}
use Rattle.smo_ops_spec.specs.First.{first_refusal}
use Rattle.smo_ops_spec.proofs.Firsts.{tests_more, tests_stop}
use Rattle.temporal_lang_types.specs.Branches.{branch_of, branches_of}
use Rattle.temporal_lang_spec.specs.Checking.{branch_names, names_tests}
use Rattle.temporal_lang.proofs.OverflowLaws.{passed_on}
use Rattle.temporal_lang.proofs.name.check_names.Goals as goal

pub returns-in_err-check_branch_names : goal.returns-in_err-check_branch_names
returns-in_err-check_branch_names c =
    let p = err_from_is_err_and c.from_residual.result c.from_residual.ensures.1 in
    rw (p.1, p.2)
    (passed_on (first_refusal (branch_names c.args.schema.now (branch_of c.branch-item.result)))
    (first_refusal (names_tests c.args.schema.now (branches_of c.args.branches.now)))
    c.in_err-check_branch_names.field-0.0
    (λ r h. c.loop-branch.invariant
    ∙ tests_stop (branch_names c.args.schema.now) branch_of c.args.branches.now
    c.loop-branch.branch-index c.branch-item.result c.loop-branch-test.true c.branch-item.is r
    h)
    c.in_err-check_branch_names.ensures)

pub loop-branch-preserved : goal.loop-branch-preserved
loop-branch-preserved c =
    c.loop-branch.invariant
    ∙ tests_more (branch_names c.args.schema.now) branch_of c.args.branches.now
    c.loop-branch.branch-index c.branch-item.result c.loop-branch-test.true c.branch-item.is
    c.in_ok-check_branch_names.ensures
