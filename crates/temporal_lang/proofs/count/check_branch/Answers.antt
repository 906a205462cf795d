use Rattle.std.proofs.Common.{sym, ap, ◌∷◌, ◌∙◌, length, map, arith}
use Rattle.std.proofs.lemmas.Result.{err_from_is_err_and}
use Rattle.prima_base.specs.declared.refusal.What.TheVariants.{Tables}
use Rattle.cond_expr.specs.Seen.{tree, test}
use Rattle.smo_ops_spec.specs.First.{first_refusal}
use Rattle.smo_ops_spec.specs.Counts.{at_most, test_counts}
use Rattle.smo_ops_spec.proofs.Firsts.{first_after, first_before, first_at, first_later}
use Rattle.temporal_lang_spec.specs.Checking.{output_counts}
use Rattle.temporal_lang.proofs.CountLaws.{above_limit, within_limit}
use Rattle.temporal_lang.proofs.count.check_branch.Goals as goal

pub returns-in_err-check_some_outputs : goal.returns-in_err-check_some_outputs
returns-in_err-check_some_outputs c =
    let p = err_from_is_err_and c.from_residual.result c.from_residual.ensures.1 in
    let b = c.args.branch.now in
    rw (p.1, p.2)
    (sym (first_before (output_counts (map tree b.outs.items))
    (at_most Tables 8 (length b.from.items) ∷ test_counts (test b.cond)) _
    (ap (λ xs. first_refusal (output_counts (map tree xs))) (sym c.deref.ensures.value)
    ∙ sym c.in_err-check_some_outputs.ensures)))

pub returns-then-len-gt-MAX_BRANCH_TABLES : goal.returns-then-len-gt-MAX_BRANCH_TABLES
returns-then-len-gt-MAX_BRANCH_TABLES c =
    let b = c.args.branch.now in
    let more = c.if-len-gt-MAX_BRANCH_TABLES.true in
    let count = c.len.ensures in
    sym (first_after (output_counts (map tree b.outs.items))
    (at_most Tables 8 (length b.from.items) ∷ test_counts (test b.cond))
    (ap (λ xs. first_refusal (output_counts (map tree xs))) (sym c.deref.ensures.value)
    ∙ sym c.in_ok-check_some_outputs.ensures)
    ∙ first_at (at_most Tables 8 (length b.from.items)) (test_counts (test b.cond)) (Tables, 8)
    (above_limit Tables 8 (length b.from.items) (omega (arith, more, count))))

pub returns : goal.returns
returns c =
    let b = c.args.branch.now in
    let few = c.if-len-gt-MAX_BRANCH_TABLES.false in
    let count = c.len.ensures in
    c.check_condition.ensures
    ∙ sym (first_after (output_counts (map tree b.outs.items))
    (at_most Tables 8 (length b.from.items) ∷ test_counts (test b.cond))
    (ap (λ xs. first_refusal (output_counts (map tree xs))) (sym c.deref.ensures.value)
    ∙ sym c.in_ok-check_some_outputs.ensures)
    ∙ first_later (at_most Tables 8 (length b.from.items)) (test_counts (test b.cond))
    (within_limit Tables 8 (length b.from.items) (omega (arith, few, count))))
