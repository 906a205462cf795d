use Rattle.std.proofs.Common.{◌≡◌, ◌+◌, drop}
use Rattle.join_exec_spec.specs.Placing.{all_below}
use Rattle.cond_expr.specs.References.{borrowed}
use Rattle.join_exec_levels.proofs.place.are_within.Given as goal

abbrev pub invariant-loop-reference : goal.invariant-loop-reference
invariant-loop-reference l = all_below l.columns (l.taken + l.width)
    (borrowed (drop l.reference-index l.references))
    ≡ all_below l.columns (l.taken + l.width) (borrowed l.references)
