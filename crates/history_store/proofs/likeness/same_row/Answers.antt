use Rattle.std.proofs.Common.{◌≡◌, ◌<◌, false, List, [], ◌∷◌, length, sym, ap, ◌∙◌, arith}
use Rattle.std.specs.Ordering.{is_ne}
use Rattle.prima_base.specs.Order.{shown, value_cmp}
use Rattle.history_store.proofs.SameRows.{same_value, row_more}
use Rattle.history_store.proofs.likeness.same_row.Goals as goal

pub loop-k-preserved : goal.loop-k-preserved
loop-k-preserved c = λ h.
    let v = shown c.newest.result in
    let w = shown c.newest-in-loop-k.result in
    let below : c.loop-k.k < length c.args.columns.now = omega arith in
    let width = c.requires.width in
    let e : is_ne (value_cmp v w) ≡ false =
    ap is_ne (sym c.compare.ensures) ∙ sym c.is_ne.ensures ∙ c.if-is_ne.false in
    c.loop-k.invariant (row_more c.args.columns.now c.args.others.now c.loop-k.k
    c.index-columns-k.result c.index-others-k.result c.args.id c.args.other below
    (omega (arith, below, width)) c.index-columns-k.is c.index-others-k.is
    (c.newest.ensures.value ∙ same_value v w e ∙ sym c.newest-in-loop-k.ensures.value) h)
