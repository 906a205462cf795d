use Rattle.store_image_spec.proofs.SamePasts.{known_past}
use Rattle.store_image_spec.proofs.laws.a_past_is_what_it_shows.Goals as goal

pub returns : goal.returns
returns c = known_past
