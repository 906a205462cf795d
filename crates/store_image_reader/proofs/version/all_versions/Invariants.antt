use Rattle.std.proofs.Common.{◌≡◌, ◌-◌, map, length}
use Rattle.std.specs.Prelude.{None}
use Rattle.smo_ops_types.specs.Commands.{version_of}
use Rattle.smo_ops_spec.specs.Past.{no_tables, newest_from}
use Rattle.command_codec_spec.specs.Reading.{prepend}
use Rattle.store_image_spec.specs.Reader.{versions}
use Rattle.store_image_reader.specs.NextVersion.{newest_stamp}
use Rattle.store_image_reader.proofs.version.all_versions.Given as goal

abbrev pub invariant-loop : goal.invariant-loop
invariant-loop l =
    versions l.last l.count 0 None no_tables l.initial.reader.rest.now
    ≡ prepend (map version_of l.list.items) (versions l.last (l.count - l.counter)
    (length l.list.items) (newest_stamp (map version_of l.list.items))
    (newest_from no_tables (map version_of l.list.items)) l.reader.rest.now)
