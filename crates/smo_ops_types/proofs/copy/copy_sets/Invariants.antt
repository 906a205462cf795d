use Rattle.std.proofs.Common.{◌≡◌, take}
use Rattle.smo_ops_types.specs.Changes.{sets_of}
use Rattle.smo_ops_types.proofs.copy.copy_sets.Given as goal

abbrev pub invariant-loop-set : goal.invariant-loop-set
invariant-loop-set l = sets_of l.copied.items ≡ sets_of (take l.set-index l.sets)
