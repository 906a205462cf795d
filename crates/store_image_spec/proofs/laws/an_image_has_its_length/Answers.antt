use Rattle.store_image_spec.proofs.ImageLengths.{has_length}
use Rattle.store_image_spec.proofs.laws.an_image_has_its_length.Goals as goal

pub returns : goal.returns
returns c = λ n i h. has_length n i
