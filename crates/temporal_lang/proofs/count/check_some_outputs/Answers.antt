use Rattle.std.proofs.lemmas.Result.{err_from_is_err_and}
use Rattle.prima_base.specs.declared.refusal.What.TheVariants.{Outputs}
use Rattle.cond_expr.specs.Seen.{tree}
use Rattle.smo_ops_spec.specs.Counts.{tree_counts}
use Rattle.smo_ops_spec.proofs.CountLaws.{limited_before, limited_above, limited_within}
use Rattle.temporal_lang.proofs.count.check_some_outputs.Goals as goal

pub returns-in_err-check_outputs : goal.returns-in_err-check_outputs
returns-in_err-check_outputs c =
    let p = err_from_is_err_and c.from_residual.result c.from_residual.ensures.1 in
    rw (p.1, p.2) (limited_before tree_counts tree c.args.outs.now Outputs 32 c.min.result
    c.min.ensures _ c.in_err-check_outputs.ensures)

pub returns-then-outs-gt-MAX_OUTPUTS : goal.returns-then-outs-gt-MAX_OUTPUTS
returns-then-outs-gt-MAX_OUTPUTS c = limited_above tree_counts tree c.args.outs.now Outputs 32
    c.min.result c.min.ensures c.in_ok-check_outputs.ensures c.if-outs-gt-MAX_OUTPUTS.true

pub returns : goal.returns
returns c = limited_within tree_counts tree c.args.outs.now Outputs 32 c.min.result c.min.ensures
    c.in_ok-check_outputs.ensures c.if-outs-gt-MAX_OUTPUTS.false
