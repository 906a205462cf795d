use Rattle.std.proofs.lemmas.Result.{err_from_is_err_and}
use Rattle.prima_base.specs.declared.refusal.What.TheVariants.{Branches}
use Rattle.temporal_lang_types.specs.Branches.{branch_of}
use Rattle.temporal_lang_spec.specs.Checking.{branch_counts}
use Rattle.smo_ops_spec.proofs.CountLaws.{limited_before, limited_above, limited_within}
use Rattle.temporal_lang.proofs.count.check_branches.Goals as goal

pub returns-in_err-check_each_branch : goal.returns-in_err-check_each_branch
returns-in_err-check_each_branch c =
    let p = err_from_is_err_and c.from_residual.result c.from_residual.ensures.1 in
    rw (p.1, p.2) (limited_before branch_counts branch_of c.args.branches.now Branches 16
    c.min.result c.min.ensures _ c.in_err-check_each_branch.ensures)

pub returns-then-branches-gt-MAX_BRANCHES : goal.returns-then-branches-gt-MAX_BRANCHES
returns-then-branches-gt-MAX_BRANCHES c = limited_above branch_counts branch_of c.args.branches.now
    Branches 16 c.min.result c.min.ensures c.in_ok-check_each_branch.ensures
    c.if-branches-gt-MAX_BRANCHES.true

pub returns : goal.returns
returns c = limited_within branch_counts branch_of c.args.branches.now Branches 16 c.min.result
    c.min.ensures c.in_ok-check_each_branch.ensures c.if-branches-gt-MAX_BRANCHES.false
