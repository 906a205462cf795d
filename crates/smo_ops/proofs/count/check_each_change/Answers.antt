use Rattle.std.proofs.Common.{sym, ◌∙◌}
use Rattle.std.proofs.lemmas.Result.{err_from_is_err_and}
use Rattle.smo_ops_types.specs.Changes.{change_of}
use Rattle.smo_ops_spec.specs.Counts.{change_counts}
use Rattle.smo_ops_spec.proofs.Firsts.{tests_more, tests_stop}
use Rattle.smo_ops.proofs.ValidConstants.{change_more}
use Rattle.smo_ops.proofs.count.check_each_change.Goals as goal

pub returns-in_err-check_change_counts-clause-counts :
    goal.returns-in_err-check_change_counts-clause-counts
returns-in_err-check_change_counts-clause-counts c =
    let p = err_from_is_err_and c.from_residual.result c.from_residual.ensures.1 in
    rw (p.1, p.2)
    (sym (c.loop-change.invariant.counts ∙ tests_stop change_counts change_of c.args.changes.now
    c.loop-change.change-index c.change-item.result c.loop-change-test.true c.change-item.is _
    (sym c.in_err-check_change_counts.ensures.counts)))

pub loop-change-preserved : goal.loop-change-preserved
loop-change-preserved c = record {
  counts = c.loop-change.invariant.counts
      ∙ tests_more change_counts change_of c.args.changes.now c.loop-change.change-index
      c.change-item.result c.loop-change-test.true c.change-item.is
      (sym c.in_ok-check_change_counts.ensures.counts);
  constants = λ rest. c.loop-change.invariant.constants
      (change_more c.args.changes.now c.loop-change.change-index c.change-item.result
      c.loop-change-test.true c.change-item.is
      c.in_ok-check_change_counts.ensures.constants rest);
}
