use Rattle.std.proofs.Common.{◌≡◌, map, drop}
use Rattle.std.specs.List.{flat_map}
use Rattle.cond_expr.specs.Seen.{tree}
use Rattle.smo_ops_spec.specs.First.{first_refusal}
use Rattle.smo_ops_spec.specs.Counts.{tree_counts}
use Rattle.temporal_lang.proofs.count.check_outputs.Given as goal

abbrev pub invariant-loop-out : goal.invariant-loop-out
invariant-loop-out l = first_refusal (flat_map tree_counts (map tree l.outs))
    ≡ first_refusal (flat_map tree_counts (map tree (drop l.out-index l.outs)))
