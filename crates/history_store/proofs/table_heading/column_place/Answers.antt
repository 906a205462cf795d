use Rattle.std.proofs.Common.{◌<◌, length, sym, ap, ◌∙◌, arith, is_eq}
use Rattle.std.proofs.lemmas.Grind.{common_steps}
use Rattle.history_store.proofs.Looking.{look_step}
use Rattle.history_store.proofs.table_heading.column_place.Goals as goal

pub loop-k-preserved : goal.loop-k-preserved
loop-k-preserved c = λ cells e.
    let h : c.loop-k.k < length c.args.columns.now = grind (arith, common_steps) in
    c.loop-k.invariant cells e ∙ look_step c.args.name.now c.args.columns.now cells c.loop-k.k
    c.index-columns-k.result h e c.index-columns-k.is
    (sym (ap is_eq c.cmp.ensures) ∙ sym c.is_eq.ensures ∙ c.if-is_eq.false)
