use Rattle.std.proofs.Common.{◌≡◌, map, take}
use Rattle.cond_expr.specs.Seen.{tree}
use Rattle.temporal_lang_types.proofs.copy.copy_outputs.Given as goal

abbrev pub invariant-loop-out : goal.invariant-loop-out
invariant-loop-out l = map tree l.copied.items ≡ map tree (take l.out-index l.outs)
