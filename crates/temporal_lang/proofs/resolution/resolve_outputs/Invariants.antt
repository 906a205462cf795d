use Rattle.std.proofs.Common.{◌≡◌, map, take}
use Rattle.cond_expr.specs.Seen.{tree}
use Rattle.cond_expr.specs.Trees.{fill}
use Rattle.temporal_lang_spec.specs.Atoms.{sources_of, to_atoms}
use Rattle.temporal_lang.proofs.resolution.resolve_outputs.Given as goal

abbrev pub invariant-loop-out : goal.invariant-loop-out
invariant-loop-out l = map tree l.resolved.items
    ≡ map (fill (to_atoms (sources_of l.by.schema.now l.by.from.now)))
    (map tree (take l.out-index l.outs))
