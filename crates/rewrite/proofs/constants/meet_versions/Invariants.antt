use Rattle.std.specs.Prelude.{map}
use Rattle.std.proofs.Common.{drop}
use Rattle.smo_ops_types.specs.Commands.{version_of}
use Rattle.smo_ops_spec.specs.ValidValues.{VersionsHold}
use Rattle.rewrite.proofs.constants.meet_versions.Given as goal

abbrev pub invariant-loop-version : goal.invariant-loop-version
invariant-loop-version l = VersionsHold (map version_of (drop l.version-index l.versions))
    → VersionsHold (map version_of l.versions)
