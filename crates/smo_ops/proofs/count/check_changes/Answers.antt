use Rattle.std.proofs.lemmas.Result.{err_from_is_err_and}
use Rattle.prima_base.specs.declared.refusal.What.TheVariants.{Changes}
use Rattle.smo_ops_types.specs.Changes.{change_of}
use Rattle.smo_ops_spec.specs.Counts.{change_counts}
use Rattle.smo_ops_spec.proofs.CountLaws.{limited_before, limited_above, limited_within}
use Rattle.smo_ops.proofs.count.check_changes.Goals as goal

pub returns-in_err-check_each_change-clause-counts :
    goal.returns-in_err-check_each_change-clause-counts
returns-in_err-check_each_change-clause-counts c =
    let p = err_from_is_err_and c.from_residual.result c.from_residual.ensures.1 in
    rw (p.1, p.2) (limited_before change_counts change_of c.args.changes.now Changes 65536
    c.min.result c.min.ensures _ c.in_err-check_each_change.ensures.counts)

pub returns-then-changes-gt-MAX_CHANGES-clause-counts :
    goal.returns-then-changes-gt-MAX_CHANGES-clause-counts
returns-then-changes-gt-MAX_CHANGES-clause-counts c =
    limited_above change_counts change_of c.args.changes.now Changes 65536 c.min.result
    c.min.ensures c.in_ok-check_each_change.ensures.counts c.if-changes-gt-MAX_CHANGES.true

pub returns-clause-counts : goal.returns-clause-counts
returns-clause-counts c =
    limited_within change_counts change_of c.args.changes.now Changes 65536 c.min.result
    c.min.ensures c.in_ok-check_each_change.ensures.counts c.if-changes-gt-MAX_CHANGES.false
