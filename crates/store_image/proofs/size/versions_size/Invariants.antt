use Rattle.std.proofs.Common.{◌≡◌, ◌+◌, ◌≤◌, length, map, min, drop}
use Rattle.std.specs.List.{flat_map}
use Rattle.smo_ops_types.specs.Commands.{version_of}
use Rattle.store_image_spec.specs.Encoding.{version_bytes}
use Rattle.store_image.proofs.size.versions_size.Given as goal

abbrev pub invariant-loop-version : goal.invariant-loop-version
invariant-loop-version l = record {
  counted : min (length (flat_map version_bytes (map version_of l.versions))) 18446744073709551615
      ≡ min (l.size + length (flat_map version_bytes
      (map version_of (drop l.version-index l.versions)))) 18446744073709551615;
  fits : l.size ≤ 18446744073709551615;
}
