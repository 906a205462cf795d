use Rattle.std.proofs.Common.{◌≡◌, take}
use Rattle.smo_ops_widths.proofs.size.copy_sizes.Given as goal

abbrev pub invariant-loop-name : goal.invariant-loop-name
invariant-loop-name l = l.copied.items ≡ take l.name-index l.sizes
