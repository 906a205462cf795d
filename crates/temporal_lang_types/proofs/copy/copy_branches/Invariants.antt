use Rattle.std.proofs.Common.{◌≡◌, take}
use Rattle.temporal_lang_types.specs.Branches.{branches_of}
use Rattle.temporal_lang_types.proofs.copy.copy_branches.Given as goal

abbrev pub invariant-loop-branch : goal.invariant-loop-branch
invariant-loop-branch l = branches_of l.copied.items ≡ branches_of (take l.branch-index l.branches)
