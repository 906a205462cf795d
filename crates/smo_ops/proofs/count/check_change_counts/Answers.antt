use Rattle.std.proofs.Common.{sym, ap, ◌∙◌}
use Rattle.std.proofs.lemmas.Result.{err_from_is_err_and}
use Rattle.cond_expr.specs.Seen.{test}
use Rattle.smo_ops_types.specs.Changes.{sets_of}
use Rattle.smo_ops_spec.specs.First.{first_refusal}
use Rattle.smo_ops_spec.specs.Counts.{set_counts, test_counts}
use Rattle.smo_ops_spec.proofs.Firsts.{first_after, first_before}
use Rattle.smo_ops.proofs.count.check_change_counts.Goals as goal

pub returns-in_err-check_sets-in-Update-clause-counts :
    goal.returns-in_err-check_sets-in-Update-clause-counts
returns-in_err-check_sets-in-Update-clause-counts c =
    let p = err_from_is_err_and c.from_residual.result c.from_residual.ensures.1 in
    rw (p.1, p.2, c.in-Update.is)
    (sym (first_before (set_counts (sets_of c.in-Update.sets.items))
    (test_counts (test c.in-Update.cond)) _
    (ap (λ sets. first_refusal (set_counts (sets_of sets))) (sym c.deref-in-Update.ensures.value)
    ∙ sym c.in_err-check_sets-in-Update.ensures.counts)))

pub returns-in_ok-check_sets-in-Update-clause-counts :
    goal.returns-in_ok-check_sets-in-Update-clause-counts
returns-in_ok-check_sets-in-Update-clause-counts c =
    rw c.in-Update.is
    (c.check_test-in-Update.ensures ∙ sym (first_after (set_counts (sets_of c.in-Update.sets.items))
    (test_counts (test c.in-Update.cond))
    (ap (λ sets. first_refusal (set_counts (sets_of sets))) (sym c.deref-in-Update.ensures.value)
    ∙ sym c.in_ok-check_sets-in-Update.ensures.counts)))
