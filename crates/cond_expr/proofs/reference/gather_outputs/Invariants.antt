use Rattle.std.proofs.Common.{◌≡◌, ◌++◌, map, drop}
use Rattle.std.specs.List.{flat_map}
use Rattle.cond_expr.specs.Seen.{tree}
use Rattle.cond_expr.specs.Faults.{references}
use Rattle.cond_expr.specs.References.{borrowed}
use Rattle.cond_expr.proofs.reference.gather_outputs.Given as goal

abbrev pub invariant-loop-out : goal.invariant-loop-out
invariant-loop-out l = borrowed l.into.items ++ flat_map references
    (map tree (drop l.out-index l.outs)) ≡ borrowed l.initial.into.items
    ++ flat_map references (map tree l.outs)
