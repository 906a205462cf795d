use Rattle.std.proofs.Common.{◌≡◌, drop}
use Rattle.smo_ops_spec.specs.First.{first_refusal}
use Rattle.temporal_lang_types.specs.Branches.{branches_of}
use Rattle.temporal_lang_spec.specs.Checking.{names_tests}
use Rattle.temporal_lang.proofs.name.check_names.Given as goal

abbrev pub invariant-loop-branch : goal.invariant-loop-branch
invariant-loop-branch l = first_refusal (names_tests l.schema (branches_of l.branches))
    ≡ first_refusal (names_tests l.schema (branches_of (drop l.branch-index l.branches)))
