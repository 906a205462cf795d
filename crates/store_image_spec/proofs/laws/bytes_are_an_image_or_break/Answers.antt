use Rattle.std.proofs.Common.{◌≡◌, sym, ap, ◌∙◌, []}
use Rattle.command_codec_spec.specs.Reading.{Parsed, Unexpected}
use Rattle.store_image_spec.specs.Reader.{image}
use Rattle.store_image_spec.proofs.ReadParts.{image_read}
use Rattle.store_image_spec.proofs.ReadImages.{image_is_read}
use Rattle.store_image_spec.proofs.Places.{stuck_in_bytes}
use Rattle.store_image_spec.proofs.laws.bytes_are_an_image_or_break.Goals as goal

pub returns-clause-place : goal.returns-clause-place
returns-clause-place c = stuck_in_bytes

pub returns-clause-none : goal.returns-clause-none
returns-clause-none c = λ bytes rest e i h q.
    (let z : Unexpected rest ≡ Parsed i [] = sym e ∙ ap image q
    ∙ image_read i (image_is_read i h) in absurd (cc))

pub returns-clause-one : goal.returns-clause-one
returns-clause-one c = λ i j h k q. (let z : Parsed i [] ≡ Parsed j [] =
    sym (image_read i (image_is_read i h)) ∙ ap image q ∙ image_read j (image_is_read j k) in cc)
