use Rattle.std.proofs.Common.{[], ap}
use Rattle.store_image_spec.specs.Images.{Image}
use Rattle.store_image_reader.specs.Seen.{image_seen}
use Rattle.store_image.proofs.image_source.read_image.Goals as goal

pub restored-requires-clause-valid : goal.restored-requires-clause-valid
restored-requires-clause-valid c = (c.an_image_is_what_is_read.ensures.right c.args.bytes.now
    (image_seen c.in-Ok.image) [] c.in-Ok.ensures.image).0

pub returns-in-Ok-restored-clause-image : goal.returns-in-Ok-restored-clause-image
returns-in-Ok-restored-clause-image c = (
  image_seen c.in-Ok.image,
  c.in-Ok.ensures.image,
  (c.an_image_is_what_is_read.ensures.right c.args.bytes.now (image_seen c.in-Ok.image) []
      c.in-Ok.ensures.image).0,
  ap (λ (i : Image). i.last) c.in-Ok-restored.ensures.image,
  c.in-Ok-restored.ensures.represents,
)
