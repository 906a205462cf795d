use Rattle.std.proofs.Common.{◌≡◌, map, drop}
use Rattle.schema_catalog.specs.Tables.{Tables}
use Rattle.smo_ops_types.specs.Commands.{version_of}
use Rattle.smo_ops_versions_spec.specs.Lifelines.{lifelines_from, lifelines_of}
use Rattle.store_image_reader.specs.Seen.{line_seen}
use Rattle.store_image_reader.proofs.due.due_lines.Given as goal

-- the tables before the next version
abbrev pub invariant-loop-before : goal.invariant-loop-before
invariant-loop-before l =
    (tables : Tables) × (lifelines_of (map version_of l.versions.list.items)
    ≡ lifelines_from tables l.before (map line_seen l.lines.items)
    (map version_of (drop l.before l.versions.list.items)))
