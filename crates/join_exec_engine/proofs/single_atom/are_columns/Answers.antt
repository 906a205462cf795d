use Rattle.std.proofs.Common.{List, map, ap, ◌∙◌, sym, take_all, arith}
use Rattle.std.proofs.lemmas.Simd.{map-map}
use Rattle.cond_expr.specs.declared.expr.Expr.{Expr}
use Rattle.cond_expr.specs.Seen.{tree}
use Rattle.cond_expr.specs.Values.{value}
use Rattle.cond_expr.specs.Rows.{cells}
use Rattle.join_exec_engine.proofs.SingleAtoms.{column_more}
use Rattle.join_exec_engine.proofs.single_atom.are_columns.Goals as goal

pub loop-place-preserved : goal.loop-place-preserved
loop-place-preserved c = λ row wide. column_more c.args.columns.now c.args.outs.now
    c.loop-place.place c.index-outs-place.result row c.loop-place-test.true c.index-outs-place.is
    c.if-outs-columns.false wide
    (c.loop-place.invariant row wide) (c.is_column_at.ensures c.if-not-is_column_at.false row)

pub returns : goal.returns
returns c = λ _ row wide.
    map-map (value (cells c.args.columns.now row)) tree c.args.outs.now
    ∙ ap (λ (outs : List Expr). map (λ (e : Expr). value (cells c.args.columns.now row) (tree e))
    outs) (sym (take_all c.loop-place.place c.args.outs.now (omega arith)))
    ∙ c.loop-place.invariant row wide
    ∙ take_all c.loop-place.place row (omega (arith, wide))
