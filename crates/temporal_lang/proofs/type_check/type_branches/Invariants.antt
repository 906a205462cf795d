use Rattle.std.proofs.Common.{◌≡◌, ◌≤◌, ◌*◌, ◌++◌, map, drop}
use Rattle.smo_ops_spec.specs.First.{first_refusal}
use Rattle.temporal_lang_types.specs.Branches.{branches_of}
use Rattle.temporal_lang_spec.specs.Checking.{types_from, output_kinds}
use Rattle.temporal_lang.specs.Typings.{kind_lists}
use Rattle.temporal_lang_spec.specs.Resolved.{HaveFew, AllSmall, AllKnown}
use Rattle.temporal_lang.proofs.type_check.type_branches.Given as goal

abbrev pub invariant-loop-branch : goal.invariant-loop-branch
invariant-loop-branch l = record {
  faults : first_refusal (types_from l.schema 0 (branches_of l.branches))
      ≡ first_refusal (types_from l.schema l.at (branches_of (drop l.branch-index l.branches)));
  nodes : l.at ≤ 8448 * l.branch-index;
  kinds : kind_lists l.kinds.items ++ map (output_kinds l.schema)
      (branches_of (drop l.branch-index l.branches))
      ≡ map (output_kinds l.schema) (branches_of l.branches);
  few : HaveFew (branches_of (drop l.branch-index l.branches));
  small : AllSmall (branches_of (drop l.branch-index l.branches));
  known : AllKnown l.schema (branches_of (drop l.branch-index l.branches));
}
