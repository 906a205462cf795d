use Rattle.store_image_spec.proofs.ReadParts.{read_image, image_read}
use Rattle.store_image_spec.proofs.ReadImages.{read_is_image, image_is_read}
use Rattle.store_image_spec.proofs.laws.an_image_is_what_is_read.Goals as goal

pub returns-clause-right : goal.returns-clause-right
returns-clause-right c = λ bytes i rest e. (let r = read_image bytes i rest e in
    (read_is_image i r.0, r.1, r.2))

pub returns-clause-complete : goal.returns-clause-complete
returns-clause-complete c = λ i h. image_read i (image_is_read i h)
