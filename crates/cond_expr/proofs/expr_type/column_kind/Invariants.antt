use Rattle.std.proofs.Common.{◌≡◌, drop}
use Rattle.cond_expr.specs.Kinds.{kinds_of}
use Rattle.cond_expr.proofs.expr_type.column_kind.Given as goal

abbrev pub invariant-loop-column : goal.invariant-loop-column
invariant-loop-column l = kinds_of l.columns l.reference.whose l.reference.name
    ≡ kinds_of (drop l.column-index l.columns) l.reference.whose l.reference.name
