use Rattle.std.proofs.Common.{◌≡◌, take}
use Rattle.temporal_lang_types.proofs.copy.copy_keeps.Given as goal

abbrev pub invariant-loop-condition : goal.invariant-loop-condition
invariant-loop-condition l = l.copied.items ≡ take l.condition-index l.keep
