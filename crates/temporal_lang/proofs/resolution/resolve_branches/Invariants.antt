use Rattle.std.proofs.Common.{◌≡◌, take}
use Rattle.temporal_lang_types.specs.Branches.{branches_of}
use Rattle.temporal_lang_spec.specs.Atoms.{branches_with_atoms}
use Rattle.temporal_lang.proofs.resolution.resolve_branches.Given as goal

abbrev pub invariant-loop-branch : goal.invariant-loop-branch
invariant-loop-branch l = branches_of l.resolved.items
    ≡ branches_with_atoms l.schema (branches_of (take l.branch-index l.branches))
