use Rattle.std.proofs.Common.{sym, ap, ◌∷◌, [], ◌∙◌, length, arith}
use Rattle.std.proofs.lemmas.Result.{err_from_is_err_and}
use Rattle.prima_base.specs.declared.refusal.What.TheVariants.{Keeps}
use Rattle.smo_ops_spec.specs.First.{first_refusal}
use Rattle.smo_ops_spec.specs.Counts.{at_most}
use Rattle.smo_ops_spec.proofs.Firsts.{first_after, first_before, first_alone}
use Rattle.temporal_lang_types.specs.Branches.{branches_of}
use Rattle.temporal_lang_spec.specs.Checking.{branches_counts}
use Rattle.temporal_lang.proofs.CountLaws.{above_limit, within_limit}
use Rattle.temporal_lang.proofs.count.check_query_counts.Goals as goal

pub returns-in_err-check_branches : goal.returns-in_err-check_branches
returns-in_err-check_branches c =
    let p = err_from_is_err_and c.from_residual.result c.from_residual.ensures.1 in
    let q = c.args.query.now in
    rw (p.1, p.2)
    (sym (first_before (branches_counts (branches_of q.branches.items))
    (at_most Keeps 8 (length q.keep.items) ∷ []) _
    (ap (λ xs. first_refusal (branches_counts (branches_of xs))) (sym c.deref.ensures.value)
    ∙ sym c.in_err-check_branches.ensures)))

pub returns-then-len-gt-MAX_KEEPS : goal.returns-then-len-gt-MAX_KEEPS
returns-then-len-gt-MAX_KEEPS c =
    let q = c.args.query.now in
    let more = c.if-len-gt-MAX_KEEPS.true in
    let count = c.len.ensures in
    sym (first_after (branches_counts (branches_of q.branches.items))
    (at_most Keeps 8 (length q.keep.items) ∷ [])
    (ap (λ xs. first_refusal (branches_counts (branches_of xs))) (sym c.deref.ensures.value)
    ∙ sym c.in_ok-check_branches.ensures)
    ∙ first_alone (at_most Keeps 8 (length q.keep.items))
    ∙ above_limit Keeps 8 (length q.keep.items) (omega (arith, more, count)))

pub returns : goal.returns
returns c =
    let q = c.args.query.now in
    let few = c.if-len-gt-MAX_KEEPS.false in
    let count = c.len.ensures in
    sym (first_after (branches_counts (branches_of q.branches.items))
    (at_most Keeps 8 (length q.keep.items) ∷ [])
    (ap (λ xs. first_refusal (branches_counts (branches_of xs))) (sym c.deref.ensures.value)
    ∙ sym c.in_ok-check_branches.ensures)
    ∙ first_alone (at_most Keeps 8 (length q.keep.items))
    ∙ within_limit Keeps 8 (length q.keep.items) (omega (arith, few, count)))
