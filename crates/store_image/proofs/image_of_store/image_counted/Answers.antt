use Rattle.std.proofs.Common.{map, None}
use Rattle.smo_ops_types.specs.Commands.{version_of}
use Rattle.smo_ops_spec.specs.Past.{no_tables}
use Rattle.smo_ops_spec.proofs.PastSteps.{beginning_is_past}
use Rattle.store_image.proofs.WrittenParts.{versions_of_one, all_writable}
use Rattle.store_image.proofs.image_of_store.image_counted.Goals as goal

pub put_versions-requires : goal.put_versions-requires
put_versions-requires g c = all_writable None no_tables (map version_of c.args.groups.now.versions)
    beginning_is_past.tables c.requires.versions (versions_of_one c.args.groups.now.versions)
