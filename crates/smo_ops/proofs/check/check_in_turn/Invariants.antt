use Rattle.std.proofs.Common.{◌≡◌, ◌*◌, ◌≤◌, take, drop}
use Rattle.smo_ops_types.specs.Changes.{changes_of}
use Rattle.smo_ops_spec.specs.First.{first_refusal}
use Rattle.smo_ops_spec.specs.Checks.{AllSmall, changes_tests, changes_fault}
use Rattle.smo_ops.specs.TablePlaces.{StandAt}
use Rattle.smo_ops.proofs.check.check_in_turn.Given as goal

abbrev pub invariant-loop-change : goal.invariant-loop-change
invariant-loop-change l = record {
  faults : changes_fault l.schema (changes_of l.changes)
      ≡ first_refusal (changes_tests l.schema (changes_of (drop l.change-index l.changes)) l.at);
  small : AllSmall (changes_of (drop l.change-index l.changes));
  nodes : l.at ≤ 8448 * l.change-index;
  tables : StandAt l.schema (changes_of (take l.change-index l.changes)) l.places.items;
}
