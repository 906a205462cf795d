use Rattle.std.proofs.Common.{◌≡◌, drop}
use Rattle.std.specs.List.{flat_map}
use Rattle.smo_ops_spec.specs.First.{first_refusal}
use Rattle.temporal_lang_types.specs.Branches.{branches_of}
use Rattle.temporal_lang_spec.specs.Checking.{branch_counts}
use Rattle.temporal_lang.proofs.count.check_each_branch.Given as goal

abbrev pub invariant-loop-branch : goal.invariant-loop-branch
invariant-loop-branch l = first_refusal (flat_map branch_counts (branches_of l.branches))
    ≡ first_refusal (flat_map branch_counts (branches_of (drop l.branch-index l.branches)))
