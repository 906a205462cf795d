use Rattle.std.proofs.Common.{ap, ◌∙◌}
use Rattle.command_codec_spec.specs.Reading.{Parsed}
use Rattle.store_image_reader.specs.Seen.{image_seen}
use Rattle.store_image_reader.proofs.image.read.Goals as goal

pub returns-in-Ok-clause-image : goal.returns-in-Ok-clause-image
returns-in-Ok-clause-image c =
    c.in-Ok.ensures.image ∙ ap (λ r. Parsed (image_seen c.in-Ok.image) r)
    (c.an_image_is_what_is_read.ensures.right c.args.bytes.now (image_seen c.in-Ok.image)
    c.image.new.reader.rest.now c.in-Ok.ensures.image).2
