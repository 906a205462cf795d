use Rattle.std.proofs.Common.{◌≡◌, ◌++◌, map, drop}
use Rattle.std.specs.List.{flat_map, AllByRecursion}
use Rattle.smo_ops_types.specs.Commands.{version_of}
use Rattle.store_image_spec.specs.Images.{VersionsNamed}
use Rattle.store_image_spec.specs.Encoding.{version_bytes}
use Rattle.store_image.specs.ImageIn.{CanBeWritten}
use Rattle.store_image.proofs.image_of_store.put_each_version.Given as goal

abbrev pub invariant-loop-version : goal.invariant-loop-version
invariant-loop-version l = record {
  written : l.out.items ++ flat_map version_bytes (map version_of (drop l.version-index l.versions))
      ≡ l.initial.out.items ++ flat_map version_bytes (map version_of l.versions);
  writable : AllByRecursion CanBeWritten (map version_of (drop l.version-index l.versions));
  named : VersionsNamed (map version_of (drop l.version-index l.versions))
      → VersionsNamed (map version_of l.versions);
}
