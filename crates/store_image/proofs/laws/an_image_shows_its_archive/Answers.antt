use Rattle.store_image.proofs.ShownImages.{shows_its_archive}
use Rattle.store_image.proofs.laws.an_image_shows_its_archive.Goals as goal

pub returns : goal.returns
returns c = shows_its_archive
