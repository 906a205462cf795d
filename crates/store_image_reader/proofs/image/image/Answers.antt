use Rattle.std.proofs.Common.{arith}
use Rattle.std.proofs.lemmas.List.{length-map}
use Rattle.smo_ops_types.specs.Commands.{version_of, versions_of}
use Rattle.store_image_spec.proofs.ReadParts.{reads_all_versions}
use Rattle.store_image_reader.proofs.image.image.Goals as goal

pub lines_of-requires : goal.lines_of-requires
lines_of-requires c =
    let vs = c.in_ok-versions.versions in
    let few = ((reads_all_versions c.in_ok-last.last).sound c.last_stamp.new.reader.rest.now
    (versions_of vs) c.all_versions.new.reader.rest.now c.in_ok-versions.ensures).0.0 in
    let n = length-map vs.list.items version_of in
    omega (arith, few, n)
