use Rattle.std.proofs.Common.{◌≡◌, take, drop}
use Rattle.smo_ops_spec.specs.First.{first_refusal}
use Rattle.smo_ops_spec.specs.Checks.{pair_names, name_faults, names_after}
use Rattle.smo_ops.proofs.check.check_names.Given as goal

abbrev pub invariant-loop-i : goal.invariant-loop-i
invariant-loop-i g l = first_refusal (name_faults l.table l.columns (pair_names l.pairs))
    ≡ first_refusal (names_after l.table l.columns (pair_names (take l.i l.pairs))
    (pair_names (drop l.i l.pairs)))
