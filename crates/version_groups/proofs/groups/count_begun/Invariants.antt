use Rattle.std.proofs.Common.{◌≡◌, ◌+◌, ◌≤◌, drop, length, map}
use Rattle.smo_ops_types.specs.Commands.{version_of}
use Rattle.smo_ops_spec.specs.Past.{begun_at}
use Rattle.version_groups.proofs.groups.count_begun.Given as goal

abbrev pub invariant-loop-version : goal.invariant-loop-version
invariant-loop-version l = record {
  counted : length (begun_at l.moment (map version_of l.versions))
      ≡ l.count + length (begun_at l.moment (map version_of (drop l.version-index l.versions)));
  few : l.count ≤ l.version-index;
}
