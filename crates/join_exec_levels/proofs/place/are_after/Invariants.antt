use Rattle.std.proofs.Common.{◌≡◌, drop}
use Rattle.cond_expr.specs.References.{borrowed}
use Rattle.join_exec_levels.specs.Places.{none_below}
use Rattle.join_exec_levels.proofs.place.are_after.Given as goal

abbrev pub invariant-loop-reference : goal.invariant-loop-reference
invariant-loop-reference l =
    none_below l.columns l.taken (borrowed (drop l.reference-index l.references))
    ≡ none_below l.columns l.taken (borrowed l.references)
