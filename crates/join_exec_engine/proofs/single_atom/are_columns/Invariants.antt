use Rattle.std.proofs.Common.{◌≡◌, List, map, length, take}
use Rattle.prima_base.specs.declared.value.Value.{Value}
use Rattle.cond_expr.specs.declared.expr.Expr.{Expr}
use Rattle.cond_expr.specs.Seen.{tree}
use Rattle.cond_expr.specs.Values.{value}
use Rattle.cond_expr.specs.Rows.{cells}
use Rattle.join_exec_engine.proofs.single_atom.are_columns.Given as goal

abbrev pub invariant-loop-place : goal.invariant-loop-place
invariant-loop-place l = (row : List Value) → length row ≡ length l.columns
    → map (λ (e : Expr). value (cells l.columns row) (tree e)) (take l.place l.outs)
    ≡ take l.place row
